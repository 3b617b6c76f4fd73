-- a lookup made of what is stored is the lookup of the table
use Rattle.std.proofs.Common.{◌≡◌, ◌+◌, ◌*◌, ℕ, Bool, false, Option, Some, None, max, min, not, nat_eq, ◌&&◌, ◌||◌, refl, sym, ap, ◌∙◌, subst, if◌then◌else◌}
use Rattle.std.specs.Option.{IfSome, option_map}
use Rattle.std.specs.Prelude.{List, slice_index_or}
use Rattle.shape_items.specs.Buffer.{most_countable}
use Rattle.layout_tables.specs.Lookups as tables
use Rattle.layout_map.specs.declared.lookups.LookupMap.{LookupMap}
use Rattle.layout_matching.specs.Found.{is_context}
use Rattle.layout_matching.specs.Work.{PLAIN_WORK, STEP_WORK, steps_work, walk_work}
use Rattle.layout_matching.specs.declared.firsts.First.{First}
use Rattle.layout_matching.specs.declared.firsts.Firsts.{Firsts}
use Rattle.layout_matching.specs.declared.lookup.Lookup.{Lookup}
use Rattle.layout_digests.specs.declared.stored.Head.{Head}
use Rattle.layout_digests.specs.declared.stored.StoredLookup.{StoredLookup}
use Rattle.layout_matching.specs.LigatureSets.{AreSets}
use Rattle.layout_matching.specs.declared.ligature_sets.StoredSets.{StoredSets}
use Rattle.layout_digests.specs.LigatureSets.{AreSetsAt}
use Rattle.layout_digests.specs.Stored.{IsHead, IsStoredAt}
use Rattle.layout_digests.specs.WholeRules.{AreWholesAt, HoldWholes, IsWholeAt}
use Rattle.layout_matching.specs.WholeRules.{AreWholes}
use Rattle.layout_matching.specs.declared.whole_rules.WholeRule.{WholeRule}
use Rattle.opentype_layout.specs.Digested.{IsSaid}
use Rattle.opentype_layout.specs.Lookups.{lookup_at, lookup_by, lookup_of, steps_work_by}
use Rattle.opentype_layout.specs.declared.lookups.LookupTables.{LookupTables}
use Rattle.opentype_layout.specs.declared.lookups.Stored.{Stored}

pub same_lookup : (t : LookupTables) (m : LookupMap) (h : Head) → IsHead t.table.now h → lookup_by t m h ≡ lookup_at t m h.place
same_lookup t m h head = rw (head.flags, head.mark_set) refl

abbrev places : Option Head → Option ℕ
places = option_map (λ (h : Head). h.place)

pub known_none : (t : LookupTables) (m : LookupMap) (firsts : List First) (s : StoredLookup) → IsStoredAt t.table.now t.positioning m.index firsts s
    → s.head ≡ None → None ≡ lookup_of t m
known_none t m firsts s known none = ap (option_map (lookup_at t m)) (sym (ap places none) ∙ known.place)

pub known_head : (t : List ℕ) (positioning : Bool) (index : ℕ) (firsts : List First) (s : StoredLookup) (h : Head)
    → IsStoredAt t positioning index firsts s → s.head ≡ Some h → IsHead t h
known_head t positioning index firsts s h known is = subst (λ (o : Option Head). IfSome o (IsHead t)) is known.head

-- the place that the table has for the lookup
pub known_place : (t : List ℕ) (positioning : Bool) (index : ℕ) (firsts : List First) (s : StoredLookup) (h : Head)
    → IsStoredAt t positioning index firsts s → s.head ≡ Some h → tables.lookup_of t index ≡ Some h.place
known_place t positioning index firsts s h known is = sym known.place ∙ ap places is

pub known_some : (t : LookupTables) (m : LookupMap) (firsts : List First) (s : StoredLookup) (h : Head)
    → IsStoredAt t.table.now t.positioning m.index firsts s → s.head ≡ Some h → Some (lookup_by t m h) ≡ lookup_of t m
known_some t m firsts s h known is =
    ap Some (same_lookup t m h (known_head t.table.now t.positioning m.index firsts s h known is))
    ∙ sym (ap (option_map (lookup_at t m)) (known_place t.table.now t.positioning m.index firsts s h known is))

-- the rules that are stored for an index are those of the lookup there
known-wholes : (t : LookupTables) (m : LookupMap) (h : Head) (ws : List (Option WholeRule)) → tables.lookup_of t.table.now m.index ≡ Some h.place
    → AreWholesAt t.table.now t.positioning m.index ws → AreWholes (lookup_at t m h.place) ws
known-wholes t m h ws there held i inside w is =
    let at : IsWholeAt t.table.now t.positioning h.place i w =
    subst (λ (o : Option WholeRule). IfSome o (IsWholeAt t.table.now t.positioning h.place i)) is (held h.place there i inside) in
    record { subtable = at.subtable; context = at.context; whole = at.whole }

-- what is said of a lookup that is stored
pub known_said : (t : LookupTables) (m : LookupMap) (stored : Stored) (s : StoredLookup) (h : Head)
    → IsStoredAt t.table.now t.positioning m.index stored.firsts.now s → HoldWholes t.table.now t.positioning stored.wholes.now → s.head ≡ Some h
    → IsSaid t.positioning (record {
      lookup = lookup_by t m h;
      digest = s.digest;
      firsts = record { all = stored.firsts; from = s.from; count = s.count; wholes = stored.wholes; index = m.index };
    })
known_said t m stored s h known held is =
    let there = known_place t.table.now t.positioning m.index stored.firsts.now s h known is in
    let head = known_head t.table.now t.positioning m.index stored.firsts.now s h known is in
    let made = known.stored h.place there in
    let firsts : Firsts = record { all = stored.firsts; from = s.from; count = s.count; wholes = stored.wholes; index = m.index } in
    subst (λ (l : Lookup). IsSaid t.positioning (record { lookup = l; digest = s.digest; firsts = firsts })) (sym (same_lookup t m h head))
    (record {
      near = head.near;
      kind = refl;
      digest = made.digest;
      firsts = λ i glyph below inside out. made.subtables i glyph below out;
      wholes = λ none inside. known-wholes t m h (slice_index_or stored.wholes.now m.index none).items there (held m.index none inside);
    })

-- the sets that are stored for an index are those of the lookup there
pub sets_of_lookup : (t : LookupTables) (m : LookupMap) (l : Lookup) (sets : StoredSets) → Some l ≡ lookup_of t m
    → AreSetsAt t.table.now m.index sets → AreSets l.table.now l.place sets
sets_of_lookup t m l sets is held = by_place (tables.lookup_of t.table.now m.index) refl
  where
    by_place : (o : Option ℕ) → tables.lookup_of t.table.now m.index ≡ o → AreSets l.table.now l.place sets
    by_place None e = absurd-none (is ∙ ap (option_map (lookup_at t m)) e)
      where
        absurd-none : Some l ≡ None → AreSets l.table.now l.place sets
        absurd-none wrong = cc
    by_place (Some place) e =
        subst (λ (x : Lookup). AreSets x.table.now x.place sets) (some-same (lookup_at t m place) l (sym (is ∙ ap (option_map (lookup_at t m)) e)))
        (held place e)
      where
        some-same : (a b : Lookup) → Some a ≡ Some b → a ≡ b
        some-same a b e = cc

pub work_of : (t : LookupTables) (m : LookupMap) (h : Head) → IsHead t.table.now h → t.positioning ≡ false
    → steps_work_by h m.random ≡ steps_work (lookup_by t m h)
work_of t m h head gsub =
    let n = tables.subtable_count_of t.table.now h.place in
    let k = tables.lookup_type_of t.table.now h.place in
    let plain : ℕ → Bool = λ kind. nat_eq kind 1 || nat_eq kind 2 || (nat_eq kind 3 && not m.random) in
    ap (λ x. max x 1 * (if plain h.kind then PLAIN_WORK else STEP_WORK)) head.subtables
    ∙ ap (λ kind. max n 1 * (if plain kind then PLAIN_WORK else STEP_WORK)) head.kind
    ∙ sym (ap (λ p. max n 1 * (if (if p then not (is_context (lookup_by t m h)) else plain k)
    then PLAIN_WORK + (if p then t.device_work else 0) else STEP_WORK)) gsub)

-- what a walk over so many items costs
pub walk_of : (t : LookupTables) (m : LookupMap) (h : Head) (l : Lookup) (count steps work : ℕ) → IsHead t.table.now h → t.positioning ≡ false
    → l ≡ lookup_by t m h → steps ≡ steps_work_by h m.random → work ≡ min (count * steps) most_countable → work ≡ walk_work l count
walk_of t m h l count steps work head gsub is each all =
    all ∙ ap (λ n. min (count * n) most_countable) (each ∙ work_of t m h head gsub) ∙ sym (ap (λ x. walk_work x count) is)
