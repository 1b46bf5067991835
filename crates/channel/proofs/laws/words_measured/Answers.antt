use Rattle.channel.proofs.Joined.{measure_laws}
use Rattle.channel.proofs.laws.words_measured.Goals as goal

pub returns : goal.returns
returns g c = measure_laws g.C.Measure.Measure.scale g.met.C.Measure.Measure.lawful
