-- Sequences of one item at the beginning of a list: such an item is followed by one that is no mark.
use Rattle.std.proofs.Common.{◌≡◌, ℕ, ◌+◌, ◌<◌, true, false, not, Option, List, [], ◌∷◌, ◌++◌, map, flat_map, fold, length, take, drop, inl, inr, refl, subst, sym, ap, ap₂, ◌∙◌, arith, append_assoc, append-nil, one-add}
use Rattle.std.proofs.lemmas.Bool.{cases_Bool}
use Rattle.std.proofs.lemmas.List.{length-append}
use Rattle.std.specs.List.{prefix_len}
use Rattle.shape_common.specs.Face.{FaceMeaning}
use Rattle.shape_common.specs.Unicode.{UnicodeMeaning}
use Rattle.shape_common.specs.declared.flags.ScratchFlags.{ScratchFlags}
use Rattle.shape_common.specs.declared.text_types.GlyphId.{GlyphId}
use Rattle.shape_items.specs.Items.{Item, is_mark_item}
use Rattle.shape_plan.specs.Rules.{Rules}
use Rattle.shape_normalize.specs.RoundOne.{sequences, emitted_for, seen_emitted, sequence_items, seen_sequence, expanded, variants, is_selector_sequence, variation_sequence_spans, variation_sequences_from}

-- as many sequences of one item as unmarked items stand after the first
alone_first : (x : Item) (rest : List Item)
    → sequences (x ∷ rest) ≡ map (λ item. item ∷ []) (take (prefix_len (λ item. not (is_mark_item item)) rest) (x ∷ rest))
    ++ sequences (drop (prefix_len (λ item. not (is_mark_item item)) rest) (x ∷ rest))
alone_first x [] = refl
alone_first x (y ∷ rest) = elim (cases_Bool (is_mark_item y)) [
  | inl joins ↦
      let none : prefix_len (λ item. not (is_mark_item item)) (y ∷ rest) ≡ 0 = rw joins refl in
      subst (λ n. sequences (x ∷ y ∷ rest) ≡ map (λ item. item ∷ []) (take n (x ∷ y ∷ rest)) ++ sequences (drop n (x ∷ y ∷ rest)))
      (sym none) refl
  | inr parts ↦ rw (parts, one-add) (ap (λ (l : List (List Item)). (x ∷ []) ∷ l) (alone_first y rest))
]

pub alone_at : (items : List Item) (x : Item) (rest : List Item) (n : ℕ) → items ≡ x ∷ rest
    → n ≡ prefix_len (λ item. not (is_mark_item item)) rest
    → sequences items ≡ map (λ item. item ∷ []) (take n items) ++ sequences (drop n items)
alone_at items x rest n is counted =
    subst (λ (l : List Item). sequences l ≡ map (λ item. item ∷ []) (take n l) ++ sequences (drop n l)) (sym is)
    (rw counted (alone_first x rest))

-- none of them is a variation sequence
pub variation_sequences-alone : (unicode : UnicodeMeaning) (face : FaceMeaning) (place : ℕ) (alone : List Item) (parts : List (List Item))
    → variation_sequences_from unicode face place (map (λ item. item ∷ []) alone ++ parts)
    ≡ variation_sequences_from unicode face (place + length alone) parts
variation_sequences-alone unicode face place [] parts =
    let same : place + 0 ≡ place = omega arith in
    rw same refl
variation_sequences-alone unicode face place (x ∷ alone) parts =
    let same : place + 1 + length alone ≡ place + length (x ∷ alone) = omega arith in
    variation_sequences-alone unicode face (place + 1) alone parts ∙ ap (λ n. variation_sequences_from unicode face n parts) same

-- so the spans that are sought are those of the rest
pub spans_passed : (unicode : UnicodeMeaning) (face : FaceMeaning) (place next : ℕ)
    → (items alone rest : List Item) (done whole : List (ℕ × ℕ))
    → sequences items ≡ map (λ item. item ∷ []) alone ++ sequences rest → next ≡ place + length alone
    → done ++ variation_sequences_from unicode face place (sequences items) ≡ whole
    → done ++ variation_sequences_from unicode face next (sequences rest) ≡ whole
spans_passed unicode face place next items alone rest done whole parts at is =
    ap (λ n. done ++ variation_sequences_from unicode face n (sequences rest)) at
    ∙ ap (λ (l : List (ℕ × ℕ)). done ++ l) (sym (ap (variation_sequences_from unicode face place) parts
    ∙ variation_sequences-alone unicode face place alone (sequences rest)))
    ∙ is

-- the spans of a sequence are those of its variation sequences, none if it holds no selector
pub spans_with : (unicode : UnicodeMeaning) (face : FaceMeaning) (place : ℕ)
    → (items sequence after : List Item) (done put whole : List (ℕ × ℕ))
    → sequences items ≡ sequence ∷ sequences after → is_selector_sequence unicode sequence ≡ true
    → put ≡ done ++ variation_sequence_spans face place (variants unicode sequence)
    → done ++ variation_sequences_from unicode face place (sequences items) ≡ whole
    → put ++ variation_sequences_from unicode face (place + length sequence) (sequences after) ≡ whole
spans_with unicode face place items sequence after done put whole first selects puts is =
    let here = variation_sequence_spans face place (variants unicode sequence) in
    let later = variation_sequences_from unicode face (place + length sequence) (sequences after) in
    let both : variation_sequences_from unicode face place (sequence ∷ sequences after) ≡ here ++ later = rw selects refl in
    ap (λ (l : List (ℕ × ℕ)). l ++ later) puts ∙ append_assoc done here later
    ∙ ap (λ (l : List (ℕ × ℕ)). done ++ l) (sym (ap (variation_sequences_from unicode face place) first ∙ both)) ∙ is

pub spans_without : (unicode : UnicodeMeaning) (face : FaceMeaning) (place : ℕ)
    → (items sequence after : List Item) (done put whole : List (ℕ × ℕ))
    → sequences items ≡ sequence ∷ sequences after → is_selector_sequence unicode sequence ≡ false → put ≡ done
    → done ++ variation_sequences_from unicode face place (sequences items) ≡ whole
    → put ++ variation_sequences_from unicode face (place + length sequence) (sequences after) ≡ whole
spans_without unicode face place items sequence after done put whole first none puts is =
    let later = variation_sequences_from unicode face (place + length sequence) (sequences after) in
    let both : variation_sequences_from unicode face place (sequence ∷ sequences after) ≡ later = rw none refl in
    ap (λ (l : List (ℕ × ℕ)). l ++ later) puts
    ∙ ap (λ (l : List (ℕ × ℕ)). done ++ l) (sym (ap (variation_sequences_from unicode face place) first ∙ both)) ∙ is

module _ (rules : Rules) (invisible not_found : Option GlyphId) where
  abbrev becomes : Item → List Item
  becomes item = emitted_for rules invisible (rules.short false) item

  abbrev sequence_becomes : List Item → List Item
  sequence_becomes sequence = sequence_items rules invisible not_found sequence

  items_alone : (alone : List Item) (parts : List (List Item))
      → flat_map sequence_becomes (map (λ item. item ∷ []) alone ++ parts) ≡ flat_map becomes alone ++ flat_map sequence_becomes parts
  items_alone [] parts = refl
  items_alone (x ∷ alone) parts =
      ap₂ (λ (front back : List Item). front ++ back) (append-nil (becomes x)) (items_alone alone parts)
      ∙ sym (append_assoc (becomes x) (flat_map becomes alone) (flat_map sequence_becomes parts))

  seen_alone : (flags : ScratchFlags) (alone : List Item) (parts : List (List Item))
      → fold (seen_sequence rules invisible) flags (map (λ item. item ∷ []) alone ++ parts)
      ≡ fold (seen_sequence rules invisible) (fold (seen_emitted rules invisible (rules.short false)) flags alone) parts
  seen_alone flags [] parts = refl
  seen_alone flags (x ∷ alone) parts = seen_alone (seen_emitted rules invisible (rules.short false) flags x) alone parts

  -- what they become is emitted, and what the list becomes still is what was emitted and what the rest becomes
  pub alone_put : (items alone rest out put : List Item) → sequences items ≡ map (λ item. item ∷ []) alone ++ sequences rest
      → put ≡ out ++ flat_map becomes alone
      → put ++ expanded rules invisible not_found rest ≡ out ++ expanded rules invisible not_found items
  alone_put items alone rest out put parts is =
      let later = expanded rules invisible not_found rest in
      ap (λ (l : List Item). l ++ later) is ∙ append_assoc out (flat_map becomes alone) later
      ∙ ap (λ (l : List Item). out ++ l) (sym (ap (flat_map sequence_becomes) parts ∙ items_alone alone (sequences rest)))

  pub alone_seen : (items alone rest : List Item) (flags seen : ScratchFlags)
      → sequences items ≡ map (λ item. item ∷ []) alone ++ sequences rest
      → seen ≡ fold (seen_emitted rules invisible (rules.short false)) flags alone
      → fold (seen_sequence rules invisible) seen (sequences rest) ≡ fold (seen_sequence rules invisible) flags (sequences items)
  alone_seen items alone rest flags seen parts is =
      ap (λ (f : ScratchFlags). fold (seen_sequence rules invisible) f (sequences rest)) is
      ∙ sym (ap (fold (seen_sequence rules invisible) flags) parts ∙ seen_alone flags alone (sequences rest))

  -- a limit that they pass is passed by the list
  pub alone_past : (items alone rest out : List Item) (limit : ℕ) → sequences items ≡ map (λ item. item ∷ []) alone ++ sequences rest
      → limit < length (out ++ flat_map becomes alone) → limit < length (out ++ expanded rules invisible not_found items)
  alone_past items alone rest out limit parts past =
      let later = expanded rules invisible not_found rest in
      let whole = ap length (alone_put items alone rest out (out ++ flat_map becomes alone) parts refl) in
      omega (arith, past, whole, length-append (out ++ flat_map becomes alone) later)
