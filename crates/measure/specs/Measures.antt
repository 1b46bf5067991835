-- The two measures of this crate. Assumes nothing.
use Rattle.std.specs.Prelude.{ℕ, ◌+◌, min, max, nat_le}
use Rattle.measure.specs.Scale.{Scale}
use Rattle.measure.specs.declared.sum.Sum.{Sum}
use Rattle.measure.specs.declared.worst.Worst.{Worst}

-- a number as a total
abbrev pub as_sum : ℕ → Sum
as_sum n = record { 0 = n }

-- the largest number of 32 bits
abbrev pub largest : ℕ
largest = 4294967295

-- starts at 0 and adds, capped at the largest number of 32 bits
abbrev pub sums : Scale Sum
sums = record {
  start = as_sum 0;
  join = λ a b. as_sum (min (a.0 + b.0) largest);
  at_most = λ a b. nat_le a.0 b.0;
}

-- a number as a largest price
abbrev pub as_worst : ℕ → Worst
as_worst n = record { 0 = n }

-- starts at 0 and keeps the larger
abbrev pub worsts : Scale Worst
worsts = record {
  start = as_worst 0;
  join = λ a b. as_worst (max a.0 b.0);
  at_most = λ a b. nat_le a.0 b.0;
}
