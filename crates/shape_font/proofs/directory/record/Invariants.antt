use Rattle.std.proofs.Common.{◌≡◌, ◌+◌, ◌-◌, ◌*◌, nat_eq, ℕ, Bool}
use Rattle.shape_font.specs.Bytes.{u32_of}
use Rattle.shape_font.specs.Search.{first_at}
use Rattle.shape_font.proofs.directory.record.Given as goal

-- what is found from here on is what is found from the start
abbrev pub invariant-loop-i : goal.invariant-loop-i
invariant-loop-i l = let p : ℕ → Bool = λ i. nat_eq (u32_of l.bytes (l.start + 12 + 16 * i)) l.tag in first_at p l.count 0 ≡ first_at p (l.count - l.i) l.i
