-- The walk of round three: what it puts in place, step by step.
use Rattle.std.proofs.Common.{◌≡◌, ◌≢◌, ℕ, suc, ◌+◌, ◌<◌, ◌≤◌, Bool, true, false, ◌&&◌, not, max, if◌then◌else◌, List, [], ◌∷◌, ◌++◌, length, map}
use Rattle.std.proofs.Common.{get_or, set, drop, Option, None, Some, IsTrue, refl, sym, ap, ap₂, subst, ◌∙◌, add-one, append_assoc, append-nil}
use Rattle.std.proofs.Common.{drop-cons, drop-set-lt, lt-length-set, get_or-set_other, get_or-set_same, eq-eqb, ne_eqb, arith}
use Rattle.std.specs.Option.{option_map}
use Rattle.std.specs.List.{AllByRecursion, flat_map, slice_get}
use Rattle.std.proofs.Math.Seq.{map-set_same}
use Rattle.std.proofs.lemmas.List.{map-append, length-map, drop_all, drop_more, get_or_default}
use Rattle.std.proofs.lemmas.Option.{slice_get-get_or, slice_get_within, get_or_from_slice_get}
use Rattle.std.proofs.lemmas.Grind.{flat_map-append, drop_more_same}
use Rattle.std.proofs.lemmas.List.Sums.{fold-append}
use Rattle.shape_items.specs.Items.{Item, ccc_of_item, is_mark_item}
use Rattle.canonical_form.specs.Recompose.{composed, recomposed_from, is_blocked, greatest_ccc, compose_with_glyph}
use Rattle.shape_items.specs.UnicodeProps.{with_scratch_of}
use Rattle.shape_common.specs.declared.flags.ScratchFlags.{ScratchFlags}
use Rattle.canonical_form.proofs.Lists.EveryLemmas.{append_all, push_all}
use Rattle.canonical_form.proofs.Recomposing.BlockLemmas.{blocked_by_number, greatest_ccc-push}
use Rattle.canonical_form.proofs.Recomposing.RecomposeLemmas.{recomposed_from-some, recomposed_from-starter, recomposed_from-mark}
use Rattle.shape_normalize.specs.Recast.{recast_to, seen_chars}
use Rattle.shape_normalize.specs.RoundThree.{Absorbed, Placed, placed, ccc_of_placed, is_mark_placed, compose_placed, recomposed_items, spans_between, chained_spans, composed_chars, composed_char, cluster_and_mask, AreComposedInPlace}
use Rattle.shape_plan.specs.Rules.{Rules, has_glyph}

option_map-if : {A B : Type 0} (f : A → B) (t : Bool) (o : Option A)
    → (if t then option_map f o else None) ≡ option_map f (if t then o else None)
option_map-if f true o = refl
option_map-if f false o = refl

pub some_items : (xs : List Item) (empty : Bool) → (xs ≡ [] → IsTrue empty) → empty ≡ false → 0 < length xs
some_items [] empty tells is = let yes : empty ≡ true = tells refl in absurd (cc)
some_items (x ∷ xs) empty tells is = omega arith

same_head : {A : Type 0} (x y : A) (xs ys : List A) → x ∷ xs ≡ y ∷ ys → x ≡ y
same_head x y xs ys same = cc

same_tail : {A : Type 0} (x y : A) (xs ys : List A) → x ∷ xs ≡ y ∷ ys → xs ≡ ys
same_tail x y xs ys same = cc

-- ---- items in their places

-- an item that is emitted stands at its place
abbrev pub IsInPlace : List Item → Placed → Type 0
IsInPlace items p = (p.place < length items) × (get_or items p.place p.item ≡ p.item)

all_in_place : (items : List Item) (out : List Placed) → AllByRecursion (IsInPlace items) out
    → map (λ (p : Placed). slice_get items p.place) out ≡ map (λ (p : Placed). Some p.item) out
all_in_place items [] each = refl
all_in_place items (p ∷ out) each =
    ap₂ ◌∷◌ (slice_get-get_or items p.place p.item each.0.0 ∙ ap Some each.0.1) (all_in_place items out each.1)

pub each_in_place : (items : List Item) (out : List Placed)
    → map (λ (p : Placed). slice_get items p.place) out ≡ map (λ (p : Placed). Some p.item) out → AllByRecursion (IsInPlace items) out
each_in_place items [] same = tt
each_in_place items (p ∷ out) same =
    let there = map (λ (p : Placed). slice_get items p.place) out in
    let own = map (λ (p : Placed). Some p.item) out in
    let here : slice_get items p.place ≡ Some p.item = same_head (slice_get items p.place) (Some p.item) there own same in (
      (slice_get_within items p.place p.item here, get_or_from_slice_get items p.place p.item p.item here),
      each_in_place items out (same_tail (slice_get items p.place) (Some p.item) there own same),
    )

-- ---- lists that each item adds to

module _ {B : Type 0} (f : Placed → List B) where
  -- if the marks add none, the starter is the last that adds any
  adds_to_starter : (before : List Placed) (at : Placed) (marks : List Placed) → flat_map f marks ≡ []
      → flat_map f (before ++ at ∷ marks) ≡ flat_map f (before ++ at ∷ [])
  adds_to_starter before at marks none =
      flat_map-append f before (at ∷ marks) ∙ ap (λ l. flat_map f before ++ (f at ++ l)) none ∙ sym (flat_map-append f before (at ∷ []))

  -- an item that adds none
  adds_none : (xs : List Placed) (c : Placed) → f c ≡ [] → flat_map f (xs ++ c ∷ []) ≡ flat_map f xs
  adds_none xs c none =
      flat_map-append f xs (c ∷ []) ∙ ap (λ l. flat_map f xs ++ (l ++ [])) none ∙ append-nil (flat_map f xs)

  -- a starter that adds one more
  adds_one : (before : List Placed) (at d : Placed) (x : B) → f d ≡ f at ++ x ∷ []
      → flat_map f (before ++ d ∷ []) ≡ flat_map f (before ++ at ∷ []) ++ x ∷ []
  adds_one before at d x more =
      flat_map-append f before (d ∷ [])
      ∙ ap (λ l. flat_map f before ++ l) (append-nil (f d) ∙ more ∙ ap (λ l. l ++ x ∷ []) (sym (append-nil (f at))))
      ∙ sym (append_assoc (flat_map f before) (f at ++ []) (x ∷ []))
      ∙ ap (λ l. l ++ x ∷ []) (sym (flat_map-append f before (at ∷ [])))

-- the spans and the characters of one item
abbrev pub spans_of : Placed → List (ℕ × ℕ)
spans_of p = spans_between p.place p.absorbed

abbrev chars_of : Placed → List ℕ
chars_of p = map (λ mark. mark.char) p.absorbed

-- the place of the last of these marks, or this one if there are none
abbrev pub last_absorbed : ℕ → List Absorbed → ℕ
last_absorbed from [] = from
last_absorbed from (mark ∷ absorbed) = last_absorbed mark.place absorbed

last_absorbed-push : (from : ℕ) (absorbed : List Absorbed) (mark : Absorbed) → last_absorbed from (absorbed ++ mark ∷ []) ≡ mark.place
last_absorbed-push from [] mark = refl
last_absorbed-push from (m ∷ absorbed) mark = last_absorbed-push m.place absorbed mark

pub spans_between-push : (from : ℕ) (absorbed : List Absorbed) (mark : Absorbed)
    → spans_between from (absorbed ++ mark ∷ []) ≡ spans_between from absorbed ++ (last_absorbed from absorbed, mark.place + 1) ∷ []
spans_between-push from [] mark = refl
spans_between-push from (m ∷ absorbed) mark = ap (λ l. (from, m.place + 1) ∷ l) (spans_between-push m.place absorbed mark)

-- ---- the walk

module _ (rules : Rules) where
  -- what is still to come of a starter, its marks and the rest
  abbrev pub after : Placed → List Placed → List Placed → List Placed
  after = recomposed_from ccc_of_placed (is_blocked ccc_of_placed) is_mark_placed (compose_placed rules)

  -- the item that stood at a place
  abbrev pub item_at : ℕ → Item → Placed
  item_at place item = record { item = item; place = place; absorbed = [] }

  -- the starter with the character that it makes with a mark
  abbrev pub made_with : Placed → Placed → ℕ → Placed
  made_with starter mark c = record {
    item = recast_to rules.unicode rules.face.nominal_glyph starter.item c;
    place = starter.place;
    absorbed = starter.absorbed ++ record { place = mark.place; char = c } ∷ [];
  }

  pub composed_info : (s : Placed) (ms : List Placed) (c : Placed) → AllByRecursion (λ m. 0 < ccc_of_placed m) ms
      → composed ccc_of_placed (is_blocked ccc_of_placed) is_mark_placed (compose_placed rules) s ms c
      ≡ option_map (made_with s c) (composed_char rules s.item (greatest_ccc ccc_of_placed ms) c.item)
  composed_info s ms c nonzero =
      let compose = compose_with_glyph rules.compose (has_glyph rules.face.nominal_glyph) s.item.codepoint c.item.codepoint in
      option_map-if (made_with s c) (is_mark_item c.item && not (is_blocked ccc_of_placed ms c)) compose
      ∙ ap (λ b. option_map (made_with s c) (if is_mark_item c.item && not b then compose else None)) (blocked_by_number ccc_of_placed ms c nonzero)

  pub placed-next : (i : ℕ) (items : List Item) (x : Item) → i < length items → x ≡ get_or items i x
      → placed i (drop i items) ≡ item_at i x ∷ placed (i + 1) (drop (i + 1) items)
  placed-next i items x lt is = rw (add-one, drop-cons items i x) (ap (λ y. item_at i y ∷ placed (suc i) (drop (suc i) items)) (sym is))

  -- an item that is emitted stands at its place, before place n
  abbrev IsBefore : ℕ → List Item → Placed → Type 0
  IsBefore n now p = (p.place < n) × IsInPlace now p

  -- and after this place
  abbrev IsBetween : ℕ → ℕ → List Item → Placed → Type 0
  IsBetween low n now p = (low < p.place) × IsBefore n now p

  -- what is put elsewhere changes none of them
  in_place_beside : (now : List Item) (k : ℕ) (x : Item) (p : Placed) → p.place ≢ k → IsInPlace now p → IsInPlace (set now k x) p
  in_place_beside now k x p other here =
      (lt-length-set now k x here.0, get_or-set_other now k p.place x p.item other ∙ here.1)

  before_beside : (k : ℕ) (now : List Item) (x : Item) (ps : List Placed) → AllByRecursion (IsBefore k now) ps
      → AllByRecursion (IsBefore k (set now k x)) ps
  before_beside k now x [] each = tt
  before_beside k now x (p ∷ ps) each =
      ((each.0.0, in_place_beside now k x p (λ same. absurd (omega (arith, each.0.0, same))) each.0.1), before_beside k now x ps each.1)

  between_beside : (k n : ℕ) (now : List Item) (x : Item) (ps : List Placed) → AllByRecursion (IsBetween k n now) ps
      → AllByRecursion (IsBetween k (n + 1) (set now k x)) ps
  between_beside k n now x [] each = tt
  between_beside k n now x (p ∷ ps) each =
      let here = in_place_beside now k x p (λ same. absurd (omega (arith, each.0.0, same))) each.0.1.1 in
      ((each.0.0, (omega (arith, each.0.1.0), here)), between_beside k n now x ps each.1)

  between_further : (low n : ℕ) (now : List Item) (ps : List Placed) → AllByRecursion (IsBetween low n now) ps
      → AllByRecursion (IsBetween low (n + 1) now) ps
  between_further low n now [] each = tt
  between_further low n now (p ∷ ps) each = ((each.0.0, (omega (arith, each.0.1.0), each.0.1.1)), between_further low n now ps each.1)

  before_further : (low n : ℕ) (now : List Item) (ps : List Placed) → low ≤ n → AllByRecursion (IsBefore low now) ps
      → AllByRecursion (IsBefore n now) ps
  before_further low n now [] le each = tt
  before_further low n now (p ∷ ps) le each = ((omega (arith, each.0.0), each.0.1), before_further low n now ps le each.1)

  between_before : (low n : ℕ) (now : List Item) (ps : List Placed) → AllByRecursion (IsBetween low n now) ps
      → AllByRecursion (IsBefore n now) ps
  between_before low n now [] each = tt
  between_before low n now (p ∷ ps) each = (each.0.1, between_before low n now ps each.1)

  before_in_place : (n : ℕ) (now : List Item) (ps : List Placed) → AllByRecursion (IsBefore n now) ps → AllByRecursion (IsInPlace now) ps
  before_in_place n now [] each = tt
  before_in_place n now (p ∷ ps) each = (each.0.1, before_in_place n now ps each.1)

  -- the items before place i were walked over: those that are emitted stand in their places, with the starter at its
  -- place, the others as they were; these are the spans and the flags, and the next span begins at `from`; the marks
  -- after the starter have this greatest ccc
  pub record IsRecomposedTo (items : List Item) (flags : ScratchFlags) (i : ℕ) (now : List Item) (spans : List (ℕ × ℕ))
      (seen : ScratchFlags) (starter from greatest : ℕ) : Type 0 where
    pub before : List Placed
    pub at : Placed
    pub marks : List Placed
    pub starter_is : starter ≡ at.place
    pub from_is : from ≡ last_absorbed at.place at.absorbed
    pub whole : recomposed_items rules items ≡ before ++ after at marks (placed i (drop i items))
    pub spans_are : spans ≡ chained_spans (before ++ at ∷ [])
    pub seen_is : seen ≡ seen_chars rules.unicode flags (composed_chars (before ++ at ∷ []))
    pub none_spanned : chained_spans marks ≡ []
    pub none_seen : composed_chars marks ≡ []
    pub nonzero : AllByRecursion (λ m. 0 < ccc_of_placed m) marks
    pub greatest_is : greatest ≡ greatest_ccc ccc_of_placed marks
    pub before_at : AllByRecursion (IsBefore at.place now) before
    pub at_after : at.place < i
    pub at_in_place : IsInPlace now at
    pub marks_at : AllByRecursion (IsBetween at.place i now) marks
    pub unread : drop i now ≡ drop i items
    pub same : map cluster_and_mask now ≡ map cluster_and_mask items

  pub IsRecomposedTo-first : (items : List Item) (flags : ScratchFlags) → 0 < length items
      → IsRecomposedTo items flags 1 items [] flags 0 0 0
  IsRecomposedTo-first [] flags some = absurd (omega (arith, some))
  IsRecomposedTo-first (y ∷ items) flags some = record {
    before = [];
    at = item_at 0 y;
    marks = [];
    starter_is = refl;
    from_is = refl;
    whole = refl;
    spans_are = refl;
    seen_is = refl;
    none_spanned = refl;
    none_seen = refl;
    nonzero = tt;
    greatest_is = refl;
    before_at = tt;
    at_after = omega arith;
    at_in_place = (omega arith, refl);
    marks_at = tt;
    unread = refl;
    same = refl;
  }

  -- the whole list was walked over
  module _ (items : List Item) (flags : ScratchFlags) (i : ℕ) (now : List Item) (spans : List (ℕ × ℕ)) (seen : ScratchFlags)
      (starter from greatest : ℕ) (le : length items ≤ i)
      (h : IsRecomposedTo items flags i now spans seen starter from greatest) where
    all : recomposed_items rules items ≡ h.before ++ h.at ∷ h.marks
    all = h.whole ∙ ap (λ rest. h.before ++ after h.at h.marks rest) (ap (placed i) (drop_all i items le))

    pub walked_spans : spans ≡ chained_spans (recomposed_items rules items)
    walked_spans = h.spans_are ∙ sym (adds_to_starter spans_of h.before h.at h.marks h.none_spanned) ∙ ap chained_spans (sym all)

    pub walked_flags : seen ≡ seen_chars rules.unicode flags (composed_chars (recomposed_items rules items))
    walked_flags =
        h.seen_is ∙ ap (seen_chars rules.unicode flags)
        (sym (adds_to_starter chars_of h.before h.at h.marks h.none_seen) ∙ ap composed_chars (sym all))

    pub walked_items : AreComposedInPlace rules items now
    walked_items = record {
      in_place = all_in_place now (recomposed_items rules items) (subst (AllByRecursion (IsInPlace now)) (sym all)
          (append_all (IsInPlace now) h.before (h.at ∷ h.marks) (before_in_place h.at.place now h.before h.before_at)
          (h.at_in_place, before_in_place i now h.marks (between_before h.at.place i now h.marks h.marks_at))));
      same = h.same;
    }

  module _ (items : List Item) (flags : ScratchFlags) (i : ℕ) (now : List Item) (spans : List (ℕ × ℕ)) (seen : ScratchFlags)
      (starter from greatest : ℕ) (x s : Item) (lt : i < length now) (is_x : x ≡ get_or now i x)
      (is_s : s ≡ get_or now starter s)
      (h : IsRecomposedTo items flags i now spans seen starter from greatest) where
    size : length now ≡ length items
    size = sym (length-map now cluster_and_mask) ∙ ap length h.same ∙ length-map items cluster_and_mask

    -- the next item stands as it did
    read : x ≡ get_or items i x
    read =
        is_x ∙ same_head (get_or now i x) (get_or items i x) (drop (i + 1) now) (drop (i + 1) items)
        (sym (drop_more now i x lt) ∙ h.unread ∙ drop_more items i x (omega (arith, size, lt)))

    abbrev next : Placed
    next = item_at i x

    abbrev rest : List Placed
    rest = placed (i + 1) (drop (i + 1) items)

    starter_at : s ≡ h.at.item
    starter_at =
        is_s ∙ get_or_default now starter s h.at.item (omega (arith, h.starter_is, h.at_in_place.0))
        ∙ ap (λ n. get_or now n h.at.item) h.starter_is ∙ h.at_in_place.1

    composed_at : (o : Option ℕ) → o ≡ composed_char rules s greatest x
        → composed ccc_of_placed (is_blocked ccc_of_placed) is_mark_placed (compose_placed rules) h.at h.marks next
        ≡ option_map (made_with h.at next) o
    composed_at o was =
        composed_info h.at h.marks next h.nonzero
        ∙ ap (option_map (made_with h.at next))
        (ap₂ (λ p n. composed_char rules p n x) (sym starter_at) (sym h.greatest_is) ∙ sym was)

    whole_next : recomposed_items rules items ≡ h.before ++ after h.at h.marks (next ∷ rest)
    whole_next = h.whole ∙ ap (λ l. h.before ++ after h.at h.marks l) (placed-next i items x (omega (arith, size, lt)) read)

    next_in_place : IsInPlace now next
    next_in_place = (lt, sym is_x)

    unread_next : drop (i + 1) now ≡ drop (i + 1) items
    unread_next = drop_more_same now items i h.unread

    -- the next item goes into the starter
    pub IsRecomposedTo-absorbed : (c : ℕ) → Some c ≡ composed_char rules s greatest x
        → IsRecomposedTo items flags (i + 1) (set now starter (recast_to rules.unicode rules.face.nominal_glyph s c))
        (spans ++ (from, i + 1) ∷ []) (with_scratch_of rules.unicode c seen) starter i greatest
    IsRecomposedTo-absorbed c was =
        let d : Placed = made_with h.at next c in
        let put_is : set now starter (recast_to rules.unicode rules.face.nominal_glyph s c) ≡ set now h.at.place d.item =
        ap₂ (λ n p. set now n (recast_to rules.unicode rules.face.nominal_glyph p c)) h.starter_is starter_at in
        subst (λ l. IsRecomposedTo items flags (i + 1) l (spans ++ (from, i + 1) ∷ []) (with_scratch_of rules.unicode c seen) starter i greatest)
        (sym put_is) (record {
          before = h.before;
          at = d;
          marks = h.marks;
          starter_is = h.starter_is;
          from_is = sym (last_absorbed-push h.at.place h.at.absorbed (record { place = i; char = c }));
          whole = whole_next
              ∙ ap (λ l. h.before
              ++ l) (recomposed_from-some ccc_of_placed (is_blocked ccc_of_placed) is_mark_placed
              (compose_placed rules) h.at h.marks next rest d (composed_at (Some c) was));
          spans_are =
              ap₂ (λ l n. l ++ (n, i + 1) ∷ []) h.spans_are h.from_is
              ∙ sym (adds_one spans_of h.before h.at d (last_absorbed h.at.place h.at.absorbed, i + 1)
              (spans_between-push h.at.place h.at.absorbed (record { place = i; char = c })));
          seen_is =
              ap (with_scratch_of rules.unicode c) h.seen_is
              ∙ sym (fold-append (λ flags c. with_scratch_of rules.unicode c flags) flags (composed_chars (h.before ++ h.at ∷ [])) (c ∷ []))
              ∙ ap (seen_chars rules.unicode flags)
              (sym (adds_one chars_of h.before h.at d c (map-append (λ (mark : Absorbed). mark.char) h.at.absorbed _)));
          none_spanned = h.none_spanned;
          none_seen = h.none_seen;
          nonzero = h.nonzero;
          greatest_is = h.greatest_is;
          before_at = before_beside h.at.place now d.item h.before h.before_at;
          at_after = omega (arith, h.at_after);
          at_in_place = (lt-length-set now h.at.place d.item h.at_in_place.0, get_or-set_same now h.at.place d.item d.item h.at_in_place.0);
          marks_at = between_beside h.at.place i now d.item h.marks h.marks_at;
          unread = drop-set-lt (i + 1) now h.at.place d.item (omega (arith, h.at_after)) ∙ unread_next;
          same = map-set_same cluster_and_mask now h.at.place d.item h.at.item (sym (ap cluster_and_mask h.at_in_place.1)) ∙ h.same;
        })

    -- the next item is emitted, and is the starter from then on
    pub IsRecomposedTo-starter : None ≡ composed_char rules s greatest x → ccc_of_item x ≡ 0
        → IsRecomposedTo items flags (i + 1) now spans seen i i 0
    IsRecomposedTo-starter was zero_ccc =
        let done = h.before ++ h.at ∷ h.marks in
        record {
          before = done;
          at = next;
          marks = [];
          starter_is = refl;
          from_is = refl;
          whole =
              whole_next
              ∙ ap (λ l. h.before
              ++ l) (recomposed_from-starter ccc_of_placed (is_blocked ccc_of_placed) is_mark_placed
              (compose_placed rules) h.at h.marks next rest (composed_at None was) (eq-eqb _ 0 zero_ccc))
              ∙ sym (append_assoc h.before (h.at ∷ h.marks) (after next [] rest));
          spans_are = h.spans_are ∙ sym (adds_none spans_of done next refl ∙ adds_to_starter spans_of h.before h.at h.marks h.none_spanned);
          seen_is = h.seen_is
              ∙ ap (seen_chars rules.unicode flags)
              (sym (adds_none chars_of done next refl ∙ adds_to_starter chars_of h.before h.at h.marks h.none_seen));
          none_spanned = refl;
          none_seen = refl;
          nonzero = tt;
          greatest_is = refl;
          before_at = append_all (IsBefore i now) h.before (h.at ∷ h.marks)
              (before_further h.at.place i now h.before (omega (arith, h.at_after)) h.before_at)
              ((h.at_after, h.at_in_place), between_before h.at.place i now h.marks h.marks_at);
          at_after = omega arith;
          at_in_place = next_in_place;
          marks_at = tt;
          unread = unread_next;
          same = h.same;
        }

    -- the next item is emitted after the starter
    pub IsRecomposedTo-mark : None ≡ composed_char rules s greatest x → (ccc_of_item x ≡ 0 → ⊥)
        → IsRecomposedTo items flags (i + 1) now spans seen starter from (max greatest (ccc_of_item x))
    IsRecomposedTo-mark was some_ccc =
        record {
          before = h.before;
          at = h.at;
          marks = h.marks ++ next ∷ [];
          starter_is = h.starter_is;
          from_is = h.from_is;
          whole =
              whole_next
              ∙ ap (λ l. h.before
              ++ l) (recomposed_from-mark ccc_of_placed (is_blocked ccc_of_placed) is_mark_placed
              (compose_placed rules) h.at h.marks next rest (composed_at None was) (ne_eqb _ 0 some_ccc));
          spans_are = h.spans_are;
          seen_is = h.seen_is;
          none_spanned = adds_none spans_of h.marks next refl ∙ h.none_spanned;
          none_seen = adds_none chars_of h.marks next refl ∙ h.none_seen;
          nonzero = push_all (λ m. 0 < ccc_of_placed m) h.marks next h.nonzero (omega (arith, some_ccc));
          greatest_is = ap (λ n. max n (ccc_of_item x)) h.greatest_is ∙ sym (greatest_ccc-push ccc_of_placed h.marks next);
          before_at = h.before_at;
          at_after = omega (arith, h.at_after);
          at_in_place = h.at_in_place;
          marks_at = push_all (IsBetween h.at.place (i + 1) now) h.marks next (between_further h.at.place i now h.marks h.marks_at)
              (h.at_after, (omega arith, next_in_place));
          unread = unread_next;
          same = h.same;
        }
