use Rattle.std.proofs.Common.{refl}
use Rattle.desk.proofs.Cuts.{cut_at_blank}
use Rattle.desk.proofs.line.cut.Goals as goal

pub returns : goal.returns
returns c =
    let p = cut_at_blank c.args.text _ c.split_once.result c.unwrap_or.result c.split_once.ensures.cases refl c.unwrap_or.ensures in
    record { name = p.0; rest = p.1 }
