-- A measure whose later prices make the earlier ones count double. Assumes nothing.
use Rattle.std.specs.Prelude.{ℕ, ◌+◌, ◌*◌, min, nat_le}
use Rattle.measure.specs.Scale.{Scale}
use Rattle.measure.specs.Measures.{largest}
use Rattle.channel_tests.specs.declared.fading.Fading as F

-- a number as such a value
abbrev pub as_fading : ℕ → F.Fading
as_fading n = record { 0 = n }

-- starts at 1, doubles and adds, capped at the largest number of 32 bits
abbrev pub fadings : Scale F.Fading
fadings = record {
  start = as_fading 1;
  join = λ a b. as_fading (min (min (a.0 * 2) largest + b.0) largest);
  at_most = λ a b. nat_le a.0 b.0;
}
