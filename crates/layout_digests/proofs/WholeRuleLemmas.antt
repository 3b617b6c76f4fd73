-- what is stored of rules of format 3 is said of the table, and stays true as more is stored
use Rattle.std.proofs.Common.{◌≡◌, ℕ, Bool, true, false, List, [], ◌∷◌, ◌++◌, length, slice_index_or, Option, Some, None, ◌+◌, ◌*◌, ◌<◌, ◌^◌, ◌&&◌, min, nat_eq, nat_lt, refl, sym, ap, subst, ◌∙◌, arith, if◌then◌else◌}
use Rattle.std.specs.Global.{Vec}
use Rattle.std.specs.Option.{IfSome, option_map_or}
use Rattle.std.proofs.lemmas.Bool.Decides.{nat_tests}
use Rattle.std.proofs.lemmas.List.{get_or_push, get_or_append_left, length-append}
use Rattle.shape_font.specs.Bytes.{u16_of}
use Rattle.layout_tables.specs.Coverage.{covers}
use Rattle.layout_tables.specs.Lookups.{lookup_of, subtable_of}
use Rattle.layout_tables.specs.Offsets.{offset16_of}
use Rattle.layout_tables.specs.declared.lookups.LookupSubtable.{LookupSubtable}
use Rattle.layout_matching.specs.Firsts.{may_begin}
use Rattle.layout_matching.specs.Found.{whole_rule}
use Rattle.layout_matching.specs.Rules.{FAR, row}
use Rattle.layout_matching.specs.WholeRules.{list_of, row_after, HasNearest, IsCounted, IsNearest}
use Rattle.layout_matching.specs.declared.firsts.First.{First}
use Rattle.layout_matching.specs.declared.rules.Rule.{Rule}
use Rattle.layout_matching.specs.declared.rules.Test.TheVariants.{Coverage}
use Rattle.layout_matching.specs.declared.whole_rules.WholeRule.{WholeRule}
use Rattle.layout_digests.specs.Coverages.{HasCovered}
use Rattle.layout_digests.specs.Digests.{has}
use Rattle.layout_digests.specs.declared.digest.Digest.{Digest}
use Rattle.layout_digests.specs.Lookups.{extension_kind, is_chained_kind, is_context_kind}
use Rattle.layout_digests.specs.WholeRules.{HoldsList, IsWholeAt, AreWholesOf, AreWholesAt, HoldWholes}

-- ---- the nearest glyphs

pub held_list : (t : List ℕ) (place : ℕ) (d : Digest) (near : First) → HasCovered t place d
    → ((glyph : ℕ) → may_begin near glyph ≡ false → has d glyph ≡ false) → HoldsList t (Some place) near
held_list t place d near covered words glyph out = by_cover (covers t place glyph) refl
  where
    by_cover : (u : Bool) → covers t place glyph ≡ u → covers t place glyph ≡ false
    by_cover false is = is
    by_cover true is = let inside = covered glyph is in let outside = words glyph out in cc

nearest-row : (t : List ℕ) (start count values : ℕ) (near : First) → start < 2 ^ 35
    → HoldsList t (list_of t start (row Coverage start count values)) near → IsNearest t (row Coverage start count values) near
nearest-row t start count values near inside held glyph more out =
    let listed : option_map_or (λ place. covers t place glyph) (offset16_of t start (min values FAR)) false ≡ false =
    subst (λ u. option_map_or (λ place. covers t place glyph) (if u then None else offset16_of t start (min values FAR)) false ≡ false)
    filled (held glyph out) in
    rw (from, at) (by_offset (nat_eq value 0) refl listed)
  where
    value : ℕ
    value = u16_of t (min values FAR)

    from : min start FAR ≡ start
    from = omega (arith, inside)

    at : min values FAR + 2 * 0 ≡ min values FAR
    at = omega arith

    filled : nat_eq count 0 ≡ false
    filled = grind (arith, nat_tests, more)

    by_offset : (u : Bool) → nat_eq value 0 ≡ u
        → option_map_or (λ place. covers t place glyph) (if nat_eq value 0 then None else Some (start + value)) false ≡ false
        → (nat_lt 0 value && covers t (start + value) glyph) ≡ false
    by_offset true is held = let none : nat_lt 0 value ≡ false = grind (arith, nat_tests, is) in rw none refl
    by_offset false is held =
        let some : nat_lt 0 value ≡ true = grind (arith, nat_tests, is) in
        ap (λ u. u && covers t (start + value) glyph) some
        ∙ subst (λ u. option_map_or (λ place. covers t place glyph) (if u then None else Some (start + value)) false ≡ false) is held

pub nearest_held : (t : List ℕ) (is_chain : Bool) (start : ℕ) (before after : First) → start < 2 ^ 35
    → HoldsList t (list_of t start (whole_rule t is_chain start).before) before
    → HoldsList t (list_of t start (row_after (whole_rule t is_chain start))) after
    → (w : WholeRule) → w.nearest_before ≡ before → w.nearest_after ≡ after → HasNearest t (whole_rule t is_chain start) w
nearest_held t is_chain start before after inside held_before held_after w is_before is_after = record {
  before = subst (IsNearest t (whole_rule t is_chain start).before) (sym is_before) (before-row is_chain held_before);
  after = subst (IsNearest t (row_after (whole_rule t is_chain start))) (sym is_after)
      (after-row is_chain (nat_lt 1 (whole_rule t is_chain start).input.count) held_after);
}
  where
    before-row : (c : Bool) → HoldsList t (list_of t start (whole_rule t c start).before) before → IsNearest t (whole_rule t c start).before before
    before-row true held = nearest-row t start _ _ before inside held
    before-row false held = nearest-row t start _ _ before inside held

    after-row : (c u : Bool)
        → HoldsList t (list_of t start (if u then (whole_rule t c start).input else (whole_rule t c start).after)) after
        → IsNearest t (if u then (whole_rule t c start).input else (whole_rule t c start).after) after
    after-row true true held = nearest-row t start _ _ after inside held
    after-row true false held = nearest-row t start _ _ after inside held
    after-row false true held = nearest-row t start _ _ after inside held
    after-row false false held = nearest-row t start _ _ after inside held

abbrev with_nearest : WholeRule → First → First → WholeRule
with_nearest r before after = record r { nearest_before = before; nearest_after = after }

-- what is stored of a subtable, with its nearest glyphs
pub whole_held : (t : List ℕ) (positioning : Bool) (place i : ℕ) (s : LookupSubtable) (is_chain : Bool) (r : WholeRule) (before after : First)
    → subtable_of t (extension_kind positioning) place i ≡ Some s → is_context_kind positioning s.kind ≡ true → s.start < 2 ^ 35
    → u16_of t s.start ≡ 3 → is_chain ≡ is_chained_kind positioning s.kind → r.subtable ≡ s
    → IsCounted t s.start (whole_rule t is_chain s.start) r
    → HoldsList t (list_of t s.start (whole_rule t is_chain s.start).before) before
    → HoldsList t (list_of t s.start (row_after (whole_rule t is_chain s.start))) after
    → IsWholeAt t positioning place i (with_nearest r before after)
whole_held t positioning place i s is_chain r before after there context near format chain same counted held_before held_after =
    subst (λ (x : LookupSubtable). IsWholeAt t positioning place i (record (with_nearest r before after) { subtable = x })) (sym same)
    (record {
      subtable = there;
      context = context;
      whole = record {
        near = near;
        format = format;
        counted = subst (λ u. IsCounted t s.start (whole_rule t u s.start) here) chain
            (record { list = counted.list; near = counted.near; paid = counted.paid; before = counted.before; after = counted.after });
        nearest = subst (λ u. HasNearest t (whole_rule t u s.start) here) chain
            (nearest_held t is_chain s.start before after near held_before held_after here refl refl);
      };
    })
  where
    here : WholeRule
    here = record (with_nearest r before after) { subtable = s }

-- ---- one more

pub one_whole : (t : List ℕ) (positioning : Bool) (place i : ℕ) (ws : List (Option WholeRule)) (w : Option WholeRule)
    → AreWholesOf t positioning place ws → length ws ≡ i → IfSome w (IsWholeAt t positioning place i)
    → AreWholesOf t positioning place (ws ++ w ∷ [])
one_whole t positioning place i ws w before count new k inside = by_last (nat_eq k i) refl
  where
    more : length (ws ++ w ∷ []) ≡ length ws + 1
    more = length-append ws (w ∷ [])

    Held : ℕ → Option WholeRule → Type 0
    Held j o = IfSome o (IsWholeAt t positioning place j)

    by_last : (u : Bool) → nat_eq k i ≡ u → Held k (slice_index_or (ws ++ w ∷ []) k None)
    by_last true is =
        let same : i ≡ k = grind (arith, nat_tests, is) in
        subst (Held k) (sym (get_or_push ws w None k (count ∙ same))) (subst (λ j. Held j w) same new)
    by_last false is =
        let below : k < length ws = grind (arith, nat_tests, is, inside, more, count) in
        subst (Held k) (sym (get_or_append_left ws (w ∷ []) None k below)) (before k below)

pub no_wholes : (t : List ℕ) (positioning : Bool) (index : ℕ) → AreWholesAt t positioning index []
no_wholes t positioning index place there i inside = absurd (omega (arith, inside))

pub placed_wholes : (t : List ℕ) (positioning : Bool) (index place : ℕ) (ws : List (Option WholeRule)) → lookup_of t index ≡ Some place
    → AreWholesOf t positioning place ws → AreWholesAt t positioning index ws
placed_wholes t positioning index place ws there held other there' =
    subst (λ p. AreWholesOf t positioning p ws) (some-same place other (sym there ∙ there')) held
  where
    some-same : (a b : ℕ) → Some a ≡ Some b → a ≡ b
    some-same a b e = cc

pub one_lookup : (t : List ℕ) (positioning : Bool) (index : ℕ) (all : List (Vec (Option WholeRule))) (ws : Vec (Option WholeRule))
    → HoldWholes t positioning all → length all ≡ index → AreWholesAt t positioning index ws.items → HoldWholes t positioning (all ++ ws ∷ [])
one_lookup t positioning index all ws before count new k none inside = by_last (nat_eq k index) refl
  where
    more : length (all ++ ws ∷ []) ≡ length all + 1
    more = length-append all (ws ∷ [])

    Held : ℕ → Vec (Option WholeRule) → Type 0
    Held i v = AreWholesAt t positioning i v.items

    by_last : (u : Bool) → nat_eq k index ≡ u → Held k (slice_index_or (all ++ ws ∷ []) k none)
    by_last true is =
        let same : index ≡ k = grind (arith, nat_tests, is) in
        subst (Held k) (sym (get_or_push all ws none k (count ∙ same))) (subst (λ i. Held i ws) same new)
    by_last false is =
        let below : k < length all = grind (arith, nat_tests, is, inside, more, count) in
        subst (Held k) (sym (get_or_append_left all (ws ∷ []) none k below)) (before k none below)
