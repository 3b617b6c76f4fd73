-- where searches of the glyphs beside a place end, whatever the masks are
use Prim.Native.Nat.{zero}
use Rattle.std.proofs.Common.{◌≡◌, ℕ, suc, ◌<◌, ◌≤◌, ◌+◌, ◌-◌, ◌&&◌, ◌||◌, Bool, true, false, List, map, Option, Some, IfSome, cond, not, length, refl, sym, subst, ap, ◌∙◌, arith}
use Rattle.shape_font.specs.Search.{first_at}
use Rattle.shape_items.specs.Items.{Item, is_ignorable_item}
use Rattle.layout_matching.specs.Skipping.{nth, is_transparent}
use Rattle.layout_matching.specs.declared.lookup.Lookup.{Lookup}
use Rattle.layout_positions.specs.Lookups.{is_between, stop_after}
use Rattle.layout_positions.specs.Subtables.{Trial, trial_step}
use Rattle.layout_positions.proofs.GlyphLemmas.{length_by_keys, key_by_keys}
use Rattle.layout_positions.proofs.KeyLemmas.{keys-trial}

-- which default ignorables positioning passes over
pub transparent_there : (l : Lookup) (item : Item) → l.positioning ≡ true
    → (is_ignorable_item item && (l.auto_zwj || not item.properties.zwj)) ≡ is_transparent l true item
transparent_there l item positions =
    let same : record l { positioning = true } ≡ l = ap (λ p. record l { positioning = p }) (sym positions) in
    subst (λ (m : Lookup). (is_ignorable_item item && (m.auto_zwj || not item.properties.zwj)) ≡ is_transparent m true item) same
    (by-bits (is_ignorable_item item) l.auto_zwj item.properties.zwj (not item.properties.zwnj) (not item.properties.hidden))
  where
    by-bits : (x y z zwnj hidden : Bool)
        → (x && (y || not z)) ≡ (x && (true || zwnj) && ((not true || y) || not z) && (true || hidden))
    by-bits true true z zwnj hidden = refl
    by-bits true false true zwnj hidden = refl
    by-bits true false false zwnj hidden = refl
    by-bits false y z zwnj hidden = refl

first-same : (p q : ℕ → Bool) → ((j : ℕ) → p j ≡ q j) → (n i : ℕ) → first_at p n i ≡ first_at q n i
first-same p q same zero i = refl
first-same p q same (suc n) i =
    ap (λ t. cond t (Some i) (first_at p n (suc i))) (same i) ∙ ap (λ o. cond (q i) (Some i) o) (first-same p q same n (suc i))

stop-same : (l : Lookup) (xs ys : List Item) (i : ℕ) → map (is_between l) xs ≡ map (is_between l) ys → stop_after l xs i ≡ stop_after l ys i
stop-same l xs ys i same =
    first-same (λ j. not (is_between l (nth xs j))) (λ j. not (is_between l (nth ys j)))
    (λ j. ap not (key_by_keys (is_between l) xs ys j same)) (length xs - (i + 1)) (i + 1)
    ∙ ap (λ n. first_at (λ j. not (is_between l (nth ys j))) (n - (i + 1)) (i + 1)) (length_by_keys (is_between l) xs ys same)

-- no subtable changes where a search ends
pub stop_tried : (l : Lookup) (i : ℕ) (s : Trial) → stop_after l (trial_step l i s).buffer.items i ≡ stop_after l s.buffer.items i
stop_tried l i s = stop-same l (trial_step l i s).buffer.items s.buffer.items i (keys-trial (is_between l) (λ x m. refl) l i s)

first-inside : (p : ℕ → Bool) (end n i : ℕ) → n ≤ end - i → IfSome (first_at p n i) (λ j. j < end)
first-inside p end zero i within = tt
first-inside p end (suc n) i within = by_first (p i) (first-inside p end n (suc i) (omega (arith, within)))
  where
    by_first : (t : Bool) → IfSome (first_at p n (suc i)) (λ j. j < end)
        → IfSome (cond t (Some i) (first_at p n (suc i))) (λ j. j < end)
    by_first true later = omega (arith, within)
    by_first false later = later

-- and it ends inside of the list
pub stop_inside : (l : Lookup) (items : List Item) (i : ℕ) (stop : Option ℕ) → stop ≡ stop_after l items i
    → IfSome stop (λ j. j < length items)
stop_inside l items i stop is =
    subst (λ o. IfSome o (λ j. j < length items)) (sym is)
    (first-inside (λ j. not (is_between l (nth items j))) (length items) (length items - (i + 1)) (i + 1) (omega arith))
