-- Each item of the normalised list has what is promised of the text's item that it came from.
use Rattle.std.proofs.Common.{◌≡◌, ℕ, zero, suc, ◌+◌, ◌<◌, Bool, true, false, if◌then◌else◌, List, [], ◌∷◌, map, length, get_or, Option, None, Some, is_some, refl, sym, ap, subst, ◌∙◌, arith, inl, inr}
use Rattle.std.specs.List.{All, AllByRecursion, AllZip, range_with_len}
use Rattle.std.specs.Option.{MatchOption}
use Rattle.std.proofs.lemmas.Bool.{cases_Bool, cond-true, cond-false}
use Rattle.std.proofs.lemmas.List.Elements.{recursion_from_All}
use Rattle.std.proofs.lemmas.List.FromFn.{length-range_with_len, get_or-range_with_len}
use Rattle.std.proofs.lemmas.List.Sorted.{All-permutation}
use Rattle.canonical_form.specs.Runs.{AreRunsSettled}
use Rattle.canonical_form.proofs.Ordering.RunLemmas.{AreRunsSettled-swaps}
use Rattle.canonical_form.proofs.Ordering.SwapLemmas.{all-swaps}
use Rattle.shape_items.specs.Buffer.{Buffer}
use Rattle.shape_items.specs.Items.{Item, new_item, ccc_of_item}
use Rattle.shape_items.specs.UnicodeProps.{is_hidden_char}
use Rattle.shape_plan.specs.Reorder.{with_ccc}
use Rattle.shape_plan.specs.Rules.{Rules}
use Rattle.shape_normalize.specs.Normalized.{ordered, hidden_char}
use Rattle.shape_normalize.specs.Origins.{item_at, Origin, origin_at, origins, HasOfOrigin, all_places, PermutesRuns, IsFromPlace, IsOnceComposed, IsFromStarter, is_recomposed, new_origins}
use Rattle.shape_normalize.specs.Reordered.{unmerged, without_ccc}
use Rattle.shape_normalize.specs.Recast.{recast_to}
use Rattle.shape_normalize.specs.RoundOne.{item_glyph, round_one}
use Rattle.shape_normalize.specs.RoundTwo.{max_run, unhidden, has_seen_cgj}
use Rattle.shape_normalize.specs.RoundThree.{Absorbed, Placed, recomposed_items}
use Rattle.shape_normalize.proofs.Normalized.ItemGlyphLemmas.{part_has_glyph}
use Rattle.shape_normalize.proofs.RoundThree.RoundThreePlaceLemmas.{AreRising, AreRising-fit, recomposed_placed}

-- ---- places are those of items

all_below : (n : ℕ) → All (λ place. place < n) (range_with_len 0 n)
all_below n = λ k d lt.
    let long = length-range_with_len 0 n in
    let at = get_or-range_with_len 0 n k d (omega arith) in
    omega arith

-- the places that round two leaves are places of the list
pub order_below : (reorder : Option (Buffer → ℕ → ℕ → Buffer)) (items : List Item) (places : List ℕ)
    → MatchOption reorder (AreRunsSettled (λ place. ccc_of_item (item_at items place)) max_run [] (all_places items) places)
    (λ f. PermutesRuns items places)
    → AllByRecursion (λ place. place < length items) places
order_below None items places settled =
    let ccc : ℕ → ℕ = λ place. ccc_of_item (item_at items place) in
    all-swaps (λ place. place < length items) (AreRunsSettled-swaps ccc max_run [] (all_places items) places settled)
    (recursion_from_All (λ place. place < length items) (all_places items) (all_below (length items)))
order_below (Some f) items places permuted =
    recursion_from_All (λ place. place < length items) places
    (All-permutation (λ place. place < length items) (all_places items) places permuted.all (all_below (length items)))

pub all_places_below : (items : List Item) → AllByRecursion (λ place. place < length items) (all_places items)
all_places_below items = recursion_from_All (λ place. place < length items) (all_places items) (all_below (length items))

rising_below : (low high : ℕ) (out : List Placed) → AreRising low high out → AllByRecursion (λ (p : Placed). p.place < high) out
rising_below low high [] up = tt
rising_below low high (p ∷ out) up = (omega (arith, AreRising-fit (p.place + 1) high out up.1), rising_below (p.place + 1) high out up.1)

-- ---- what goes along with an item

-- what holds of a list's items and of places of it, holds of what is made of these
zip_places : {A B C : Type 0} (P : A → Type 0) (R : A → B → Type 0) (S : C → B → Type 0) (f : A → C)
    → ((x : A) (y : B) → P x → R x y → S (f x) y)
    → (xs : List A) (ys : List B) → AllByRecursion P xs → AllZip R xs ys → AllZip S (map f xs) ys
zip_places P R S f makes [] [] each zipped = tt
zip_places P R S f makes [] (y ∷ ys) each zipped = absurd zipped
zip_places P R S f makes (x ∷ xs) [] each zipped = absurd zipped
zip_places P R S f makes (x ∷ xs) (y ∷ ys) each zipped = (makes x y each.0 zipped.0, zip_places P R S f makes xs ys each.1 zipped.1)

module _ {A B : Type 0} (R : A → B → Type 0) where
  zip_at : (xs : List A) (ys : List B) (i : ℕ) (d : A) (e : B) → AllZip R xs ys → i < length ys → R (get_or xs i d) (get_or ys i e)
  zip_at [] [] i d e each lt = absurd (omega arith)
  zip_at [] (y ∷ ys) i d e each lt = absurd each
  zip_at (x ∷ xs) [] i d e each lt = absurd each
  zip_at (x ∷ xs) (y ∷ ys) zero d e each lt = each.0
  zip_at (x ∷ xs) (y ∷ ys) (suc i) d e each lt = zip_at xs ys i d e each.1 (omega arith)

module _ (rules : Rules) (text : Buffer) where
  abbrev one : Buffer
  one = round_one rules text

  abbrev Has : Origin → Item → Type 0
  Has origin item = HasOfOrigin rules text (has_seen_cgj one) origin item

  abbrev none : Origin
  none = origin_at false 0

  -- it depends on no cluster, no defined flag and no ccc
  has_same : (origin : Origin) (x y : Item) → without_ccc x ≡ without_ccc y → Has origin y → Has origin x
  has_same origin x y same has =
      let hidden : hidden_char x ≡ hidden_char y = ap hidden_char same in
      record {
        features = ap (λ (item : Item). item.mask) same ∙ has.features;
        glyph = λ outside. ap (λ (item : Item). item.glyph_index) same ∙ has.glyph outside
            ∙ sym (ap (item_glyph rules text.invisible_glyph) same);
        hidden = elim has.hidden [
          | inl kept ↦ inl (hidden ∙ kept)
          | inr (inl own) ↦ inr (inl (ap (λ k. k.1) hidden ∙ own ∙ sym (ap (λ k. is_hidden_char k.0) hidden)))
          | inr (inr cgj) ↦ inr (inr (cgj.0, ap (λ k. k.0) hidden ∙ cgj.1))
        ];
      }

  without_ccc_of : (hook : Bool) (x y : Item) → (if hook then without_ccc x else unmerged x) ≡ (if hook then without_ccc y else unmerged y)
      → without_ccc x ≡ without_ccc y
  without_ccc_of true x y same = same
  without_ccc_of false x y same = ap (with_ccc 0) same

  -- ---- round two

  has_in_order : (place : ℕ) (item : Item) → place < length one.items
      → AllZip (HasOfOrigin rules text false) (origins rules text) one.items
      → IsFromPlace rules one place item → Has (get_or (origins rules text) place none) item
  has_in_order place item lt expanded is =
      let from = item_at one.items place in
      let origin = get_or (origins rules text) place none in
      let had : HasOfOrigin rules text false origin from =
      zip_at (HasOfOrigin rules text false) (origins rules text) one.items place none (new_item 0 0) expanded lt in
      let hook = is_some rules.reorder in
      elim is [
        | inl same ↦
            has_same origin item from (without_ccc_of hook item from same) (record {
              features = had.features;
              glyph = had.glyph;
              hidden = elim had.hidden [
                | inl kept ↦ inl kept
                | inr (inl own) ↦ inr (inl own)
                | inr (inr cgj) ↦ absurd (let no : false ≡ true = cgj.0 in cc)
              ];
            })
        | inr unhides ↦
            let seen : has_seen_cgj one ≡ true = unhides.0 in
            let once_unhidden : Has origin (unhidden from) =
            record { features = had.features; glyph = had.glyph; hidden = inr (inr (seen, unhides.1)) } in
            has_same origin item (unhidden from) (without_ccc_of hook item (unhidden from) unhides.2) once_unhidden
      ]

  module _ (places : List ℕ) (below : AllByRecursion (λ place. place < length one.items) places)
      (expanded : AllZip (HasOfOrigin rules text false) (origins rules text) one.items)
      (in_order : AllZip (IsFromPlace rules one) places (ordered rules text).items) where
    abbrev of_ordered : List Origin
    of_ordered = map (λ place. get_or (origins rules text) place none) places

    ordered_has : AllZip Has of_ordered (ordered rules text).items
    ordered_has =
        zip_places (λ place. place < length one.items) (IsFromPlace rules one) Has (λ place. get_or (origins rules text) place none)
        (λ place item lt is. has_in_order place item lt expanded is) places (ordered rules text).items below in_order

    -- ---- round three

    has_once_composed : (origin : Origin) (from item : Item) (absorbed : List Absorbed) → Has origin from → IsOnceComposed rules from absorbed item
        → Has origin item
    has_once_composed origin from item [] has same = has_same origin item from (ap (with_ccc 0) same) has
    has_once_composed origin from item (mark ∷ marks) has absorbed =
        has_same origin item (recast_to rules.unicode rules.face.nominal_glyph from item.codepoint) (ap (with_ccc 0) absorbed.2)
        (record {
          features = has.features;
          glyph = λ outside. part_has_glyph rules text.invisible_glyph None from item.codepoint absorbed.1;
          hidden = inr (inl refl);
        })

    recomposed_has : (items : List Item)
        → AllZip (IsFromStarter rules (ordered rules text).items) (recomposed_items rules (ordered rules text).items) items
        → AllZip Has (map (λ (p : Placed). get_or of_ordered p.place none) (recomposed_items rules (ordered rules text).items)) items
    recomposed_has items from_starters =
        let old = (ordered rules text).items in
        let out = recomposed_items rules old in
        zip_places (λ (p : Placed). p.place < length old) (IsFromStarter rules old) Has (λ (p : Placed). get_or of_ordered p.place none)
        (λ p item lt is. has_once_composed (get_or of_ordered p.place none) (item_at old p.place) item p.absorbed
        (zip_at Has of_ordered old p.place none (new_item 0 0) ordered_has lt) is)
        out items (rising_below 0 (length old) out (recomposed_placed rules old).rising) from_starters

    -- each item of the new list has it
    pub new_has : (new : Buffer)
        → (is_recomposed rules text ≡ true
        → AllZip (IsFromStarter rules (ordered rules text).items) (recomposed_items rules (ordered rules text).items) new.items)
        → (is_recomposed rules text ≡ false → new ≡ ordered rules text)
        → AllZip Has (new_origins rules text places) new.items
    new_has new recomposed left =
        let by_starters = map (λ (p : Placed). get_or of_ordered p.place none) (recomposed_items rules (ordered rules text).items) in
        elim (cases_Bool (is_recomposed rules text)) [
          | inl composes ↦
              subst (λ l. AllZip Has l new.items) (sym (cond-true _ by_starters of_ordered composes))
              (recomposed_has new.items (recomposed composes))
          | inr leaves ↦
              subst (λ l. AllZip Has l new.items) (sym (cond-false _ by_starters of_ordered leaves))
              (subst (λ (c : Buffer). AllZip Has of_ordered c.items) (sym (left leaves)) ordered_has)
        ]
