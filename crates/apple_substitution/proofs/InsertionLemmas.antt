-- Glyphs inserted one by one, and lists that are past their limit already.
use Prim.Native.Nat.{zero}
use Rattle.std.proofs.Common.{◌≡◌, ℕ, suc, ◌+◌, ◌-◌, ◌*◌, ◌<◌, ◌≤◌, Bool, true, false, List}
use Rattle.std.proofs.Common.{insert, length, nat_eq, nat_le, nat_lt, refl, sym, ap, ◌∙◌, arith, if◌then◌else◌}
use Rattle.std.proofs.lemmas.Bool.Decides.{nat_tests}
use Rattle.std.proofs.lemmas.List.Edits.{length-insert}
use Rattle.shape_items.specs.Buffer.{Buffer, limit_of}
use Rattle.shape_items.specs.Items.{Item}
use Rattle.apple_tables.specs.declared.states.Entry.{Entry}
use Rattle.apple_substitution.specs.Edits.{charged, is_past}
use Rattle.apple_substitution.specs.Insertion.{Placed, copy, count_of, current_done, current_inserted, insert_at, inserted, inserted_beside, model_at}
use Rattle.apple_substitution.specs.Insertion.{place_of, side_of, work_of}
use Rattle.apple_substitution.specs.declared.insertion.Wanted.{Wanted}

-- one glyph more is inserted, and all are
pub inserted_next : (t : List ℕ) (from : ℕ) (model x : Item) (at n i : ℕ) (here there end : Buffer) → i < n
    → inserted t from model at (n - i) here ≡ end
    → x ≡ copy t (from + 2 * (n - (i + 1))) model → there ≡ insert_at at x here
    → inserted t from model at (n - (i + 1)) there ≡ end
inserted_next t from model x at n i here there end more before made is =
    let e : n - i ≡ suc (n - (i + 1)) = omega (arith, more) in
    ap (inserted t from model at (n - (i + 1))) (is ∙ ap (λ y. insert_at at y here) made)
    ∙ sym (ap (λ k. inserted t from model at k here) e) ∙ before

pub inserted_all : (t : List ℕ) (from : ℕ) (model : Item) (at n i : ℕ) (here end : Buffer)
    → inserted t from model at (n - i) here ≡ end → n ≤ i → here ≡ end
inserted_all t from model at n i here end before over =
    let none : n - i ≡ 0 = omega (arith, over) in
    sym (ap (λ k. inserted t from model at k here) none) ∙ before

-- an item more leaves a list past its limit, and makes one that is at its limit pass it
pub past_one : (at : ℕ) (x : Item) (b : Buffer) → at ≤ length b.items → limit_of b ≤ length b.items
    → is_past (insert_at at x b) ≡ true
past_one at x b inside full =
    let t : nat_le at (length b.items) ≡ true = grind (arith, nat_tests, inside) in
    let one : length (insert b.items at x) ≡ length b.items + 1 = length-insert b.items at x inside in
    rw t (rw one (grind (arith, nat_tests, full)))

past_by : (t : Bool) (at : ℕ) (x : Item) (b : Buffer) → nat_le at (length b.items) ≡ t → is_past b ≡ true
    → is_past (insert_at at x b) ≡ true
past_by true at x b inside is =
    let le : at ≤ length b.items = grind (arith, nat_tests, inside) in
    let lt : limit_of b < length b.items = grind (arith, nat_tests, is) in
    past_one at x b le (omega (arith, lt))
past_by false at x b outside is = rw outside is

past_inserted : (t : List ℕ) (from : ℕ) (model : Item) (at n : ℕ) (b : Buffer) → is_past b ≡ true
    → is_past (inserted t from model at n b) ≡ true
past_inserted t from model at zero b is = is
past_inserted t from model at (suc n) b is =
    let x : Item = copy t (from + 2 * n) model in
    past_inserted t from model at n (insert_at at x b) (past_by (nat_le at (length b.items)) at x b refl is)

-- a list that passes its limit stays past it, whatever is inserted then
pub past_all : (t : List ℕ) (from : ℕ) (model : Item) (at n i : ℕ) (here end : Buffer) → i < n
    → inserted t from model at (n - i) here ≡ end
    → is_past (insert_at at (copy t (from + 2 * (n - (i + 1))) model) here) ≡ true → is_past end ≡ true
past_all t from model at n i here end more before is =
    let e : n - i ≡ suc (n - (i + 1)) = omega (arith, more) in
    let there : Buffer = insert_at at (copy t (from + 2 * (n - (i + 1))) model) here in
    ap is_past (sym before ∙ ap (λ k. inserted t from model at k here) e)
    ∙ past_inserted t from model at (n - (i + 1)) there is

past_beside : (t : List ℕ) (start : ℕ) (w : Wanted) (at : ℕ) (b : Buffer) → is_past b ≡ true
    → is_past (inserted_beside t start w at b) ≡ true
unfolding inserted_beside
past_beside t start w at b is =
    let there : Buffer = inserted t (place_of t start w) (model_at at b) (side_of w at b) (count_of t start w) b in
    elim (nat_eq (length b.items) 0) as (λ none. is_past (if none then b else there) ≡ true) [
      | true ↦ is
      | false ↦ past_inserted t (place_of t start w) (model_at at b) (side_of w at b) (count_of t start w) b is
    ]

pub past_current : (t : List ℕ) (start : ℕ) (w : Wanted) (e : Entry) (p : Placed) → is_past p.buffer ≡ true
    → is_past (current_done t start w e p).buffer ≡ true
unfolding current_done
past_current t start w e p is =
    let q : Placed = record p { buffer = charged (work_of w 0) p.buffer } in
    elim (nat_lt p.buffer.max_ops (work_of w 0)) as
    (λ little. is_past (if little then q else current_inserted t start w e q).buffer ≡ true) [
      | true ↦ is
      | false ↦ past_beside t start w p.at q.buffer is
    ]
