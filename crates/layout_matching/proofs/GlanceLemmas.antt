-- where a glance refuses a row, a search for its first value finds nothing
use Prim.Native.Nat.{zero}
use Rattle.std.proofs.Common.{◌≡◌, ℕ, suc, ◌+◌, ◌-◌, ◌*◌, ◌&&◌, ◌||◌, Bool, true, false, not, min, List, length, Option, Some, None, cond, nat_eq, refl, sym, ap, ◌∙◌, arith, if◌then◌else◌}
use Rattle.std.specs.Option.{option_and_then, option_map_or, unwrap_or}
use Rattle.shape_font.specs.Bytes.{u16_of}
use Rattle.shape_font.specs.Search.{first_at}
use Rattle.shape_items.specs.Items.{Item}
use Rattle.layout_tables.specs.Classes.{class_of}
use Rattle.layout_matching.specs.Glance.{value_of, glance_at, any_glyph, glance_after, glance_before, refuses}
use Rattle.layout_matching.specs.Rules.{FAR, is_named, fits_row}
use Rattle.layout_matching.specs.Seeking.{mask_of, is_between, if_fits, next_place, prev_place}
use Rattle.layout_matching.specs.Skipping.{nth, shares, is_skipped, is_transparent}
use Rattle.layout_matching.specs.declared.glance.Glance.{Glance}
use Rattle.layout_matching.specs.declared.glance.Glance.TheVariants.{Open, Closed}
use Rattle.layout_matching.specs.declared.lookup.Lookup.{Lookup}
use Rattle.layout_matching.specs.declared.rules.Test.{Test}
use Rattle.layout_matching.specs.declared.rules.Test.TheVariants.{Glyph, Class, Coverage, Any}
use Rattle.layout_matching.specs.declared.seeking.Seek.{Seek}

not-not : (b : Bool) → not b ≡ true → b ≡ false
not-not true h = cc
not-not false h = refl

-- ---- searches that let no less past

none-step : (q : ℕ → Bool) (i : ℕ) (t : Bool) (x y : Option ℕ) → (t ≡ false → q i ≡ false) → (x ≡ None → y ≡ None)
    → cond t (Some i) x ≡ None → cond (q i) (Some i) y ≡ None
none-step q i true x y less rest none = let bad : Some i ≡ None = none in cc
none-step q i false x y less rest none = ap (λ u. cond u (Some i) y) (less refl) ∙ rest none

first-none : (p q : ℕ → Bool) (n i : ℕ) → ((j : ℕ) → p j ≡ false → q j ≡ false) → first_at p n i ≡ None → first_at q n i ≡ None
first-none p q zero i less none = refl
first-none p q (suc n) i less none =
    none-step q i (p i) (first_at p n (suc i)) (first_at q n (suc i)) (less i) (first-none p q n (suc i) less) none

same-step : (q : ℕ → Bool) (i j : ℕ) (t : Bool) (x y : Option ℕ) → (t ≡ false → q i ≡ false) → q j ≡ true
    → (x ≡ Some j → y ≡ Some j) → cond t (Some i) x ≡ Some j → cond (q i) (Some i) y ≡ Some j
same-step q i j true x y less ends rest is =
    let same : i ≡ j = ap (λ (o : Option ℕ). unwrap_or o 0) is in
    ap (λ u. cond u (Some i) y) (ap q same ∙ ends) ∙ is
same-step q i j false x y less ends rest is = ap (λ u. cond u (Some i) y) (less refl) ∙ rest is

first-same : (p q : ℕ → Bool) (n i j : ℕ) → ((k : ℕ) → p k ≡ false → q k ≡ false) → q j ≡ true → first_at p n i ≡ Some j
    → first_at q n i ≡ Some j
first-same p q zero i j less ends is = let bad : None ≡ Some j = is in cc
first-same p q (suc n) i j less ends is =
    same-step q i j (p i) (first_at p n (suc i)) (first_at q n (suc i)) (less i) ends (first-same p q n (suc i) j less ends) is

holds-step : (p : ℕ → Bool) (i j : ℕ) (t : Bool) (x : Option ℕ) → p i ≡ t → (x ≡ Some j → p j ≡ true) → cond t (Some i) x ≡ Some j
    → p j ≡ true
holds-step p i j true x here rest is =
    let same : i ≡ j = ap (λ (o : Option ℕ). unwrap_or o 0) is in
    sym (ap p same) ∙ here
holds-step p i j false x here rest is = rest is

first-holds : (p : ℕ → Bool) (n i j : ℕ) → first_at p n i ≡ Some j → p j ≡ true
first-holds p zero i j is = let bad : None ≡ Some j = is in cc
first-holds p (suc n) i j is = holds-step p i j (p i) (first_at p n (suc i)) refl (first-holds p n (suc i) j) is

-- ---- at one glyph

less-by : (k t a b r : Bool) → not (k || (t && not (a && b && true))) ≡ false → not (k || (t && not (a && b && r))) ≡ false
less-by true t a b r h = refl
less-by false false a b r h = h
less-by false true false b r h = refl
less-by false true true false r h = refl
less-by false true true true r h = let bad : true ≡ false = h in cc

ends-by : (g : ℕ → Glance) (k t a b r : Bool) (value : Glance) (words : List ℕ) (at place : ℕ) → g place ≡ (if t then Open else value)
    → not (k || (t && not (a && b && true))) ≡ true
    → refuses words at (option_map_or g (if a && b && true then Some place else None) Closed) ≡ true
    → not (k || (t && not (a && b && r))) ≡ true
ends-by g true t a b r value words at place is ends refused = let bad : false ≡ true = ends in cc
ends-by g false false a b r value words at place is ends refused = refl
ends-by g false true false b r value words at place is ends refused = let bad : false ≡ true = ends in cc
ends-by g false true true false r value words at place is ends refused = let bad : false ≡ true = ends in cc
ends-by g false true true true r value words at place is ends refused = let bad : false ≡ true = sym (ap (refuses words at) is) ∙ refused in cc

none-by : (g : ℕ → Glance) (t a b r : Bool) (value : Glance) (words : List ℕ) (at place : ℕ) → g place ≡ (if t then Open else value)
    → (refuses words at value ≡ true → r ≡ false)
    → refuses words at (option_map_or g (if a && b && true then Some place else None) Closed) ≡ true
    → (if a && b && r then Some place else None) ≡ None
none-by g t false b r value words at place is other refused = refl
none-by g t true false r value words at place is other refused = refl
none-by g true true true r value words at place is other refused = let bad : false ≡ true = sym (ap (refuses words at) is) ∙ refused in cc
none-by g false true true r value words at place is other refused =
    ap (λ u. if u then Some place else None) (other (sym (ap (refuses words at) is) ∙ refused))

names-other : (words : List ℕ) (from glyph at : ℕ) (test : Test) → refuses words at (value_of words from glyph test) ≡ true
    → is_named words from (u16_of words at) glyph test ≡ false
names-other words from glyph at Glyph refused = not-not (nat_eq glyph (u16_of words at)) refused
names-other words from glyph at Class refused = not-not (nat_eq (class_of words from glyph) (u16_of words at)) refused
names-other words from glyph at Coverage refused = let bad : false ≡ true = refused in cc
names-other words from glyph at Any refused = let bad : false ≡ true = refused in cc

-- whether no value at the row's begin names the glyph that a search for any one finds
abbrev pub IsRefused : Lookup → Seek → Glance → Type 0
IsRefused l seek glance = refuses l.table.now (min seek.row.values FAR) glance ≡ true

with-nothing : (n : ℕ) → n + 2 * 0 ≡ n
with-nothing n = omega arith

fits-other : (l : Lookup) (seek : Seek) (item : Item)
    → refuses l.table.now (min seek.row.values FAR) (value_of l.table.now (min seek.row.from FAR) item.glyph_id seek.row.test) ≡ true
    → fits_row l.table.now seek.row 0 item.glyph_id ≡ false
fits-other l seek item refused =
    let t = l.table.now in
    ap (λ at. is_named t (min seek.row.from FAR) (u16_of t at) item.glyph_id seek.row.test) (with-nothing (min seek.row.values FAR))
    ∙ names-other t (min seek.row.from FAR) item.glyph_id (min seek.row.values FAR) seek.row.test refused

no-less : (l : Lookup) (seek : Seek) (item : Item) → not (is_between l (any_glyph seek) 0 item) ≡ false → not (is_between l seek 0 item) ≡ false
no-less l seek item =
    less-by (is_skipped l item) (is_transparent l seek.is_input item) (shares item.mask (mask_of l seek))
    (nat_eq seek.syllable 0 || nat_eq item.properties.syllable seek.syllable) (fits_row l.table.now seek.row 0 item.glyph_id)

ends-too : (l : Lookup) (seek : Seek) (items : List Item) (place : ℕ) → not (is_between l (any_glyph seek) 0 (nth items place)) ≡ true
    → IsRefused l seek (option_map_or (glance_at l seek items) (if_fits l (any_glyph seek) items 0 place) Closed)
    → not (is_between l seek 0 (nth items place)) ≡ true
ends-too l seek items place =
    let item = nth items place in
    ends-by (glance_at l seek items) (is_skipped l item) (is_transparent l seek.is_input item) (shares item.mask (mask_of l seek))
    (nat_eq seek.syllable 0 || nat_eq item.properties.syllable seek.syllable) (fits_row l.table.now seek.row 0 item.glyph_id)
    (value_of l.table.now (min seek.row.from FAR) item.glyph_id seek.row.test) l.table.now (min seek.row.values FAR) place refl

none-there : (l : Lookup) (seek : Seek) (items : List Item) (place : ℕ)
    → IsRefused l seek (option_map_or (glance_at l seek items) (if_fits l (any_glyph seek) items 0 place) Closed)
    → if_fits l seek items 0 place ≡ None
none-there l seek items place =
    let item = nth items place in
    none-by (glance_at l seek items) (is_transparent l seek.is_input item) (shares item.mask (mask_of l seek))
    (nat_eq seek.syllable 0 || nat_eq item.properties.syllable seek.syllable) (fits_row l.table.now seek.row 0 item.glyph_id)
    (value_of l.table.now (min seek.row.from FAR) item.glyph_id seek.row.test) l.table.now (min seek.row.values FAR) place refl
    (fits-other l seek item)

-- ---- beside a place, by what stands at each distance from it

seek-refused : (l : Lookup) (seek : Seek) (items : List Item) (place : ℕ → ℕ) (n i : ℕ)
    → IsRefused l seek (option_map_or (glance_at l seek items) (option_and_then (λ d. if_fits l (any_glyph seek) items 0 (place d))
    (first_at (λ d. not (is_between l (any_glyph seek) 0 (nth items (place d)))) n i)) Closed)
    → option_and_then (λ d. if_fits l seek items 0 (place d)) (first_at (λ d. not (is_between l seek 0 (nth items (place d)))) n i) ≡ None
seek-refused l seek items place n i =
    by_first (first_at p n i) refl
  where
    p : ℕ → Bool
    p d = not (is_between l (any_glyph seek) 0 (nth items (place d)))

    q : ℕ → Bool
    q d = not (is_between l seek 0 (nth items (place d)))

    by_first : (o : Option ℕ) → first_at p n i ≡ o
        → IsRefused l seek (option_map_or (glance_at l seek items) (option_and_then (λ d. if_fits l (any_glyph seek) items 0 (place d)) o) Closed)
        → option_and_then (λ d. if_fits l seek items 0 (place d)) (first_at q n i) ≡ None
    by_first None is refused =
        ap (option_and_then (λ d. if_fits l seek items 0 (place d)))
        (first-none p q n i (λ d. no-less l seek (nth items (place d))) is)
    by_first (Some d) is refused =
        ap (option_and_then (λ d. if_fits l seek items 0 (place d)))
        (first-same p q n i d (λ k. no-less l seek (nth items (place k)))
        (ends-too l seek items (place d) (first-holds p n i d is) refused) is)
        ∙ none-there l seek items (place d) refused

pub next_refused : (l : Lookup) (seek : Seek) (items : List Item) (i : ℕ) → IsRefused l seek (glance_after l seek items i)
    → next_place l seek items 0 i ≡ None
next_refused l seek items i = seek-refused l seek items (λ j. j) (length items - (i + 1)) (i + 1)

pub prev_refused : (l : Lookup) (seek : Seek) (items : List Item) (i : ℕ) → IsRefused l seek (glance_before l seek items i)
    → prev_place l seek items 0 i ≡ None
prev_refused l seek items i = seek-refused l seek items (λ d. i - 1 - d) i 0
