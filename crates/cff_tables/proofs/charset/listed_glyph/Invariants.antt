use Rattle.std.proofs.Common.{◌≡◌, ◌-◌, ◌+◌, ◌*◌, nat_eq, ℕ, Bool}
use Rattle.cff_tables.specs.Bytes.{first_at, word_of}
use Rattle.cff_tables.proofs.charset.listed_glyph.Given as goal

abbrev pub invariant-loop-i : goal.invariant-loop-i
invariant-loop-i l = let p : ℕ → Bool = λ i. nat_eq (word_of l.table (l.at + 2 * i)) l.name in
    first_at p (l.count - 1) 0 ≡ first_at p (l.count - 1 - l.i) l.i
