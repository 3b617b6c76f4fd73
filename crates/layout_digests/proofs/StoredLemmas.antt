-- what is stored stays true as more is stored
use Rattle.std.proofs.Common.{◌≡◌, ℕ, Bool, true, false, List, [], ◌∷◌, ◌++◌, length, slice_index_or, Some, ◌+◌, ◌≤◌, ◌<◌, nat_eq, refl, sym, ap, subst, ◌∙◌, arith}
use Rattle.std.specs.Option.{IfSome, option_map}
use Rattle.std.proofs.lemmas.Bool.Decides.{nat_tests}
use Rattle.std.proofs.lemmas.List.Elements.{All-push}
use Rattle.std.proofs.lemmas.List.{get_or_push, get_or_append_left, length-append}
use Rattle.layout_tables.specs.Lookups.{lookup_of, subtable_of}
use Rattle.layout_matching.specs.Firsts.{may_begin, no_first}
use Rattle.layout_matching.specs.declared.firsts.First.{First}
use Rattle.layout_digests.specs.declared.digest.Digest.{Digest}
use Rattle.layout_digests.specs.declared.stored.Head.{Head}
use Rattle.layout_digests.specs.declared.stored.StoredLookup.{StoredLookup}
use Rattle.layout_digests.specs.Digests.{has}
use Rattle.layout_digests.specs.Lookups.{begins_at, extension_kind, HasFirst, IsDigestAt}
use Rattle.layout_digests.specs.Stored.{HoldsFirsts, HoldsFirstsAt, Extends, IsHead, IsStored, IsStoredAt, no_lookup, AreStored, AreInside}

pub nothing_held : (t : List ℕ) (positioning : Bool) (place : ℕ) (firsts : List First) (from : ℕ) → HoldsFirsts t positioning place firsts from 0
nothing_held t positioning place firsts from i glyph none = absurd (omega (arith, none))

pub as_before : (firsts : List First) → Extends firsts firsts
as_before firsts = record { longer = omega arith; same = λ i inside. refl }

pub extended : (first firsts : List First) (x : First) → Extends first firsts → Extends first (firsts ++ x ∷ [])
extended first firsts x before = record {
  longer = let count : length (firsts ++ x ∷ []) ≡ length firsts + 1 = length-append firsts (x ∷ []) in omega (arith, before.longer, count);
  same = λ i inside. get_or_append_left firsts (x ∷ []) no_first i (omega (arith, before.longer, inside)) ∙ before.same i inside;
}

-- what is false of a glyph out of the set
out_of : (t h : Bool) → (t ≡ true → h ≡ true) → h ≡ false → t ≡ false
out_of false h held none = refl
out_of true true held none = cc
out_of true false held none = sym (held refl)

pub one_first : (t : List ℕ) (positioning : Bool) (place : ℕ) (firsts : List First) (from i : ℕ) (d : Digest) (x : First)
    → HoldsFirsts t positioning place firsts from i → length firsts ≡ from + i → HasFirst t positioning place i d
    → ((glyph : ℕ) → may_begin x glyph ≡ false → has d glyph ≡ false)
    → HoldsFirsts t positioning place (firsts ++ x ∷ []) from (i + 1)
one_first t positioning place firsts from i d x before count held words j glyph below out subtable there = by_last (nat_eq j i) refl
  where
    Out : ℕ → Type 0
    Out k = subtable_of t (extension_kind positioning) place k ≡ Some subtable → begins_at t positioning subtable glyph ≡ false

    new : may_begin x glyph ≡ false → Out i
    new none here = out_of (begins_at t positioning subtable glyph) (has d glyph) (held subtable glyph here) (words glyph none)

    by_last : (u : Bool) → nat_eq j i ≡ u → begins_at t positioning subtable glyph ≡ false
    by_last true is =
        let same : i ≡ j = grind (arith, nat_tests, is) in
        let last : slice_index_or (firsts ++ x ∷ []) (from + j) no_first ≡ x = get_or_push firsts x no_first (from + j) (omega (arith, same, count)) in
        subst Out same (new (sym (ap (λ y. may_begin y glyph) last) ∙ out)) there
    by_last false is =
        let less : j < i = grind (arith, nat_tests, is, below) in
        let old : slice_index_or (firsts ++ x ∷ []) (from + j) no_first ≡ slice_index_or firsts (from + j) no_first =
        get_or_append_left firsts (x ∷ []) no_first (from + j) (omega (arith, less, count)) in
        before j glyph less (sym (ap (λ y. may_begin y glyph) old) ∙ out) subtable there

-- what was stored before
firsts_stay : (t : List ℕ) (positioning : Bool) (place : ℕ) (firsts more : List First) (from count : ℕ) → Extends firsts more
    → from + count ≤ length firsts → HoldsFirsts t positioning place firsts from count → HoldsFirsts t positioning place more from count
firsts_stay t positioning place firsts more from count longer inside before i glyph below out =
    before i glyph below (sym (ap (λ y. may_begin y glyph) (longer.same (from + i) (omega (arith, inside, below)))) ∙ out)

stays : (t : List ℕ) (positioning : Bool) (place : ℕ) (firsts more : List First) (s : StoredLookup) → Extends firsts more
    → s.from + s.count ≤ length firsts → IsStored t positioning place firsts s → IsStored t positioning place more s
stays t positioning place firsts more s longer inside before = record {
  digest = before.digest;
  subtables = firsts_stay t positioning place firsts more s.from s.count longer inside before.subtables;
}

pub one_stored : (t : List ℕ) (positioning : Bool) (firsts more : List First) (ss : List StoredLookup) (s : StoredLookup)
    → AreStored t positioning firsts ss → AreInside firsts ss → Extends firsts more
    → IsDigestAt t positioning (length ss) s.digest → HoldsFirstsAt t positioning (length ss) more s.from s.count
    → option_map (λ (h : Head). h.place) s.head ≡ lookup_of t (length ss) → IfSome s.head (IsHead t)
    → AreStored t positioning more (ss ++ s ∷ [])
one_stored t positioning firsts more ss s before within longer digest held place head index inside = by_last (nat_eq index (length ss)) refl
  where
    new : IsStoredAt t positioning (length ss) more s
    new = record {
      place = place;
      head = head;
      stored = λ there is. record { digest = digest there is; subtables = held there is };
    }

    by_last : (u : Bool) → nat_eq index (length ss) ≡ u → IsStoredAt t positioning index more (slice_index_or (ss ++ s ∷ []) index no_lookup)
    by_last true is =
        let same : length ss ≡ index = grind (arith, nat_tests, is) in
        let last : slice_index_or (ss ++ s ∷ []) index no_lookup ≡ s = get_or_push ss s no_lookup index same in
        subst (IsStoredAt t positioning index more) (sym last) (subst (λ k. IsStoredAt t positioning k more s) same new)
    by_last false is =
        let count : length (ss ++ s ∷ []) ≡ length ss + 1 = length-append ss (s ∷ []) in
        let below : index < length ss = grind (arith, nat_tests, is, inside, count) in
        subst (IsStoredAt t positioning index more) (sym (get_or_append_left ss (s ∷ []) no_lookup index below))
        (let old = before index below in record {
          place = old.place;
          head = old.head;
          stored = λ there is. stays t positioning there firsts more (slice_index_or ss index no_lookup) longer (within index no_lookup below)
              (old.stored there is);
        })

pub all_inside : (firsts more : List First) (ss : List StoredLookup) (s : StoredLookup) → AreInside firsts ss → Extends firsts more
    → s.from + s.count ≤ length more → AreInside more (ss ++ s ∷ [])
all_inside firsts more ss s within longer new = All-push (λ (s : StoredLookup). s.from + s.count ≤ length more) ss s
    (λ k x below. omega (arith, within k x below, longer.longer)) new
