-- An order that looks like a measure and is none. Assumes nothing.
use Rattle.std.specs.Prelude.{ℕ, ◌+◌, max, ◌&&◌, ◌||◌, ◌==◌, nat_le, nat_lt}
use Rattle.measure.specs.Scale.{Scale}

-- the largest price and the total: compared by the largest, and by the total where these are equal
abbrev pub worst_then_sum : Scale (ℕ × ℕ)
worst_then_sum = record {
  start = (0, 0);
  join = λ a b. (max a.0 b.0, a.1 + b.1);
  at_most = λ a b. nat_lt a.0 b.0 || (a.0 == b.0 && nat_le a.1 b.1);
}
