use Rattle.std.proofs.Common.{◌≡◌, ◌≤◌, ◌-◌, ◌++◌, length}
use Rattle.arabic_stretching.specs.Copying.{copies_of, moved_by}
use Rattle.arabic_stretching.proofs.copying.put_copies.Given as goal

-- the copies so far and those to come
abbrev pub invariant-loop : goal.invariant-loop
invariant-loop l = record {
  made : l.out.items ++ copies_of l.pen l.tile (l.count - l.counter) ≡ l.fn.out.items ++ copies_of l.fn.pen l.tile l.count;
  pen : moved_by (l.count - l.counter) l.pen ≡ moved_by l.count l.fn.pen;
  within : length l.out.items ≤ l.limit;
}
