-- A list with a list put in place of each item, if the limit allows it.
use Rattle.std.proofs.Common.{◌≡◌, ℕ, ◌≤◌, ◌<◌, ◌↔◌, List, length, replicate, Result, Ok, Err, OnOk, refl, ap, ap₂, sym, subst, ◌∙◌, inl, inr, arith}
use Rattle.std.specs.Prelude.{IsErrOf, IsErrAnd}
use Rattle.std.proofs.lemmas.Bool.{cases_order}
use Rattle.std.specs.List.{flat_map}
use Rattle.shape_items.specs.Buffer.{Buffer, limit_of}
use Rattle.shape_items.specs.Items.{Item}
use Rattle.shape_buffer.specs.Outcome.{Outcome, step, for_length, for_memory}
use Rattle.shape_common.specs.Positions.{zero_position}
use Rattle.shape_buffer.specs.declared.buffer.error.ShapeError.{ShapeError}
use Rattle.shape_buffer.specs.declared.buffer.error.ShapeError.TheVariants.{Memory, Length}

-- the buffer with these items, at positions of zeros
abbrev pub with_items : Buffer → List Item → Buffer
with_items b items = record b { items = items; positions = replicate (length items) zero_position }

pub Outcome-replaced : (become : Item → List Item) (f : Buffer → Buffer) (old new : Buffer) (items : List Item) (n : ℕ)
    (result : Result (Unit {0}) ShapeError) → f old ≡ with_items old (flat_map become old.items)
    → items ≡ flat_map become old.items → n ≡ length items
    → OnOk result (new ≡ record old { items = items; positions = replicate n zero_position })
    → (IsErrOf result Length ↔ (limit_of old < n))
    → Outcome (step f) old new result
Outcome-replaced become f old new items n (Ok x) does is many ok past =
    let made : new ≡ f old = ok
    ∙ ap₂ (λ (xs : List Item) (k : ℕ). record old { items = xs; positions = replicate k zero_position }) is (many ∙ ap length is)
    ∙ sym does in
    let long : n ≡ length (flat_map become old.items) = many ∙ ap length is in
    let within : n ≤ limit_of old = elim (cases_order (limit_of old) n) [
      | inl same ↦ omega (arith, same)
      | inr (inl over) ↦ absurd (let e = past.1 over in cc)
      | inr (inr under) ↦ omega (arith, under)
    ] in
    record {
      made = made;
      each_within = (subst (λ (b : Buffer). length b.items ≤ limit_of old) (sym does) (omega arith), tt);
      within = (let P : Buffer → Type 0 = λ b. length b.items ≤ limit_of b in subst P (sym (made ∙ does)) (omega arith));
      same_limit = ap limit_of (made ∙ does);
    }
Outcome-replaced become f old new items n (Err Memory) does is many ok past = for_memory
Outcome-replaced become f old new items n (Err Length) does is many ok past =
    let over = past.0 refl in
    let long : n ≡ length (flat_map become old.items) = many ∙ ap length is in
    for_length (inl (subst (λ (b : Buffer). limit_of old < length b.items) (sym does) (omega arith)))

-- a growth was refused before the list was whole
pub Outcome-refused : (f : Buffer → Buffer) (old new : Buffer) (result : Result (Unit {0}) ShapeError) → IsErrAnd result (λ e. e ≡ Memory)
    → Outcome (step f) old new result
Outcome-refused f old new (Ok x) is = absurd is
Outcome-refused f old new (Err Memory) is = for_memory
Outcome-refused f old new (Err Length) is = absurd (let e : Length ≡ Memory = is in cc)
