-- what is stored of sets of ligatures stays true as more is stored
use Rattle.std.proofs.Common.{◌≡◌, ℕ, Bool, true, false, List, [], ◌∷◌, ◌++◌, length, slice_index_or, Option, Some, None, Result, Ok, Err, IfOk, IfSome, ◌+◌, ◌<◌, nat_eq, refl, sym, ap, subst, ◌∙◌, arith}
use Rattle.std.proofs.lemmas.Bool.Decides.{nat_tests}
use Rattle.std.proofs.lemmas.List.{get_or_push, get_or_append_left, length-append}
use Rattle.layout_tables.specs.Lookups.{lookup_of}
use Rattle.layout_matching.specs.LigatureSets.{AreSets, IsSetFor, IsSetIn, first_start, no_set}
use Rattle.layout_matching.specs.declared.ligature_sets.LigatureSet.{LigatureSet}
use Rattle.layout_matching.specs.declared.ligature_sets.StoredSets.{StoredSets}
use Rattle.layout_digests.specs.LigatureSets.{AreSetsAt, HoldSets}

-- ---- one glyph more

-- a number that is stored is that of a set, and what is stored of it is of its glyph
abbrev pub BelowIn : List (Option ℕ) → List LigatureSet → Type 0
BelowIn ns ss = (i : ℕ) → i < length ns → (n : ℕ) → slice_index_or ns i None ≡ Some n → n < length ss

abbrev pub HeldIn : List ℕ → ℕ → ℕ → List (Option ℕ) → List LigatureSet → Type 0
HeldIn t place first ns ss = (i : ℕ) → i < length ns → (n : ℕ) → slice_index_or ns i None ≡ Some n → n < length ss
    → IsSetFor t place (first + i) (slice_index_or ss n no_set)

same-some : (m n : ℕ) → Some m ≡ Some n → m ≡ n
same-some m n is = cc

module _ (ns : List (Option ℕ)) (o : Option ℕ) (i : ℕ) (inside : i < length (ns ++ o ∷ [])) where
  before : nat_eq i (length ns) ≡ false → i < length ns
  before other = grind (arith, nat_tests, other, inside, length-append ns (o ∷ []))

  pub earlier : (other : nat_eq i (length ns) ≡ false) → (n : ℕ) → slice_index_or (ns ++ o ∷ []) i None ≡ Some n → slice_index_or ns i None ≡ Some n
  earlier other n is = sym (get_or_append_left ns (o ∷ []) None i (before other)) ∙ is

  pub last_one : nat_eq i (length ns) ≡ true → (n : ℕ) → slice_index_or (ns ++ o ∷ []) i None ≡ Some n → o ≡ Some n
  last_one last n is =
      let same : length ns ≡ i = grind (arith, nat_tests, last) in
      sym (get_or_push ns o None i same) ∙ is

pub below_none : (ns : List (Option ℕ)) (ss : List LigatureSet) → BelowIn ns ss → BelowIn (ns ++ None ∷ []) ss
below_none ns ss below i inside n is = by_last (nat_eq i (length ns)) refl
  where
    by_last : (u : Bool) → nat_eq i (length ns) ≡ u → n < length ss
    by_last true last = let wrong : None ≡ Some n = last_one ns None i inside last n is in cc
    by_last false other = below i (before ns None i inside other) n (earlier ns None i inside other n is)

pub held_none : (t : List ℕ) (place first : ℕ) (ns : List (Option ℕ)) (ss : List LigatureSet) → HeldIn t place first ns ss
    → HeldIn t place first (ns ++ None ∷ []) ss
held_none t place first ns ss held i inside n is below = by_last (nat_eq i (length ns)) refl
  where
    by_last : (u : Bool) → nat_eq i (length ns) ≡ u → IsSetFor t place (first + i) (slice_index_or ss n no_set)
    by_last true last = let wrong : None ≡ Some n = last_one ns None i inside last n is in cc
    by_last false other = held i (before ns None i inside other) n (earlier ns None i inside other n is) below

module _ (ns : List (Option ℕ)) (ss : List LigatureSet) (s : LigatureSet) (below : BelowIn ns ss) where
  more : length (ss ++ s ∷ []) ≡ length ss + 1
  more = length-append ss (s ∷ [])

  pub below_some : BelowIn (ns ++ Some (length ss) ∷ []) (ss ++ s ∷ [])
  below_some i inside n is = by_last (nat_eq i (length ns)) refl
    where
      by_last : (u : Bool) → nat_eq i (length ns) ≡ u → n < length (ss ++ s ∷ [])
      by_last true last =
          let same : length ss ≡ n = same-some (length ss) n (last_one ns (Some (length ss)) i inside last n is) in omega (arith, same, more)
      by_last false other =
          let few : n < length ss =
          below i (before ns (Some (length ss)) i inside other) n (earlier ns (Some (length ss)) i inside other n is) in
          omega (arith, few, more)

  pub held_some : (t : List ℕ) (place first : ℕ) → HeldIn t place first ns ss → IsSetFor t place (first + length ns) s
      → HeldIn t place first (ns ++ Some (length ss) ∷ []) (ss ++ s ∷ [])
  held_some t place first held new i inside n is inside' = by_last (nat_eq i (length ns)) refl
    where
      For : ℕ → LigatureSet → Type 0
      For j x = IsSetFor t place (first + j) x

      by_last : (u : Bool) → nat_eq i (length ns) ≡ u → For i (slice_index_or (ss ++ s ∷ []) n no_set)
      by_last true last =
          let there : length ns ≡ i = grind (arith, nat_tests, last) in
          let same : length ss ≡ n = same-some (length ss) n (last_one ns (Some (length ss)) i inside last n is) in
          subst (For i) (sym (get_or_push ss s no_set n same)) (subst (λ j. For j s) there new)
      by_last false other =
          let lower = before ns (Some (length ss)) i inside other in
          let there = earlier ns (Some (length ss)) i inside other n is in
          let few : n < length ss = below i lower n there in
          subst (For i) (sym (get_or_append_left ss (s ∷ []) no_set n few)) (held i lower n there few)

-- ---- one lookup more

pub is_for : (t : List ℕ) (place start glyph : ℕ) (s : LigatureSet) → first_start t place ≡ Some start → IsSetIn t start glyph s
    → IsSetFor t place glyph s
is_for t place start glyph s there held = record {
  first = there ∙ ap Some (sym held.start);
  held = record { start = refl; near = held.near; close = held.close; set = held.set; has = held.has };
}

pub first_sets : (t : List ℕ) (index place start : ℕ) (stored : StoredSets) → lookup_of t index ≡ Some place → first_start t place ≡ Some start
    → ((place : ℕ) → first_start t place ≡ Some start → AreSets t place stored) → AreSetsAt t index stored
first_sets t index place start stored there first held place' there' =
    let same : place ≡ place' = same-some place place' (sym there ∙ there') in
    subst (λ p. AreSets t p stored) same (held place first)

pub all_at : {E : Type 0} (t : List ℕ) (index place start : ℕ) (r : Result StoredSets E) → lookup_of t index ≡ Some place
    → first_start t place ≡ Some start → IfOk r (λ stored. (place : ℕ) → first_start t place ≡ Some start → AreSets t place stored)
    → IfOk r (λ stored. AreSetsAt t index stored)
all_at t index place start (Ok stored) there first held = first_sets t index place start stored there first held
all_at t index place start (Err e) there first held = tt

pub some_for : (t : List ℕ) (place start glyph other : ℕ) (o : Option LigatureSet) → first_start t place ≡ Some start → other ≡ glyph
    → IfSome o (IsSetIn t start glyph) → IfSome o (IsSetFor t place other)
some_for t place start glyph other None there is held = tt
some_for t place start glyph other (Some s) there is held =
    subst (λ g. IsSetFor t place g s) (sym is) (is_for t place start glyph s there held)

pub one_lookup : (t : List ℕ) (index : ℕ) (all : List StoredSets) (sets : StoredSets) → HoldSets t all → length all ≡ index
    → AreSetsAt t index sets → HoldSets t (all ++ sets ∷ [])
one_lookup t index all sets before count new k none inside = by_last (nat_eq k index) refl
  where
    more : length (all ++ sets ∷ []) ≡ length all + 1
    more = length-append all (sets ∷ [])

    Held : ℕ → StoredSets → Type 0
    Held i v = AreSetsAt t i v

    by_last : (u : Bool) → nat_eq k index ≡ u → Held k (slice_index_or (all ++ sets ∷ []) k none)
    by_last true is =
        let same : index ≡ k = grind (arith, nat_tests, is) in
        subst (Held k) (sym (get_or_push all sets none k (count ∙ same))) (subst (λ i. Held i sets) same new)
    by_last false is =
        let below : k < length all = grind (arith, nat_tests, is, inside, more, count) in
        subst (Held k) (sym (get_or_append_left all (sets ∷ []) none k below)) (before k none below)
