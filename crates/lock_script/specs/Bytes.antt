use Rattle.std.specs.Prelude.{ℕ, List, Option}

-- What contracts see of a script's bytes: those that are left, where they are known, how many of them are
-- buffered, and how many reads were made.
pub record ByteView : Type 0 where
  pub left : Option (List ℕ)
  pub buffered : ℕ
  pub reads : ℕ

-- how many reads are made of a script at most
abbrev pub most_reads : ℕ
most_reads = 1100000000
