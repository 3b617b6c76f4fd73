-- attached glyphs that make a forest end up where their offsets lead
use Prim.Native.Nat.{zero}
use Rattle.std.proofs.Common.{◌≡◌, ℕ, ℤ, pos, suc, ◌<◌, ◌≤◌, ◌||◌, Bool, true, false, Option, Some, None, length, nat_eq, nat_lt, refl, sym, ap, subst, ◌∙◌, arith, inl, inr, if◌then◌else◌}
use Rattle.std.specs.Prelude.{◌⊎◌, not, is_some}
use Rattle.std.specs.Option.{option_map_or}
use Rattle.std.proofs.lemmas.Bool.{cases_lt, cases_eq}
use Rattle.std.proofs.lemmas.Bool.Decides.{nat_tests}
use Rattle.std.proofs.lemmas.List.{get_or_past}
use Rattle.shape_common.specs.Direction.{is_horizontal, is_forward}
use Rattle.shape_common.specs.Positions.{zero_position}
use Rattle.shape_common.specs.declared.positions.GlyphPosition.{GlyphPosition}
use Rattle.shape_common.specs.declared.text_types.Direction.{Direction}
use Rattle.shape_items.specs.Buffer.{Buffer}
use Rattle.layout_positions.specs.Attachment.{CURSIVE_ATTACHED, MOST_LINKS, place_at, parent_of, freed, hung, carried, followed, settled, each, offsets_finished}
use Rattle.layout_positions.specs.Edits.{position_at, position_put}
use Rattle.layout_positions.specs.Forest.{IsForest, ends_within, loose, moved_with}
use Rattle.layout_positions.specs.Ways.{way, way_between}
use Rattle.layout_positions.specs.declared.ways.Pen.{Pen}
use Rattle.layout_positions.proofs.SettleLemmas.{settled_free}
use Rattle.layout_positions.proofs.FollowLemmas.{IsPut, put-other, put-here, put-is, put-then, SameWays, ways-freed, ways-followed, between-same, parent-has_place, place-inside}

-- ---- where a glyph comes to rest

rest : Buffer → ℕ → ℕ → GlyphPosition
rest b zero i = loose (position_at b i)
rest b (suc n) i = option_map_or (λ j. moved_with b i j (rest b n j)) (parent_of b i) (loose (position_at b i))

moved-loose : (b : Buffer) (i j : ℕ) (there : GlyphPosition) → (moved_with b i j there).attach_chain ≡ pos 0
moved-loose b i j there =
    let own = loose (position_at b i) in
    by_type (nat_eq own.attach_type CURSIVE_ATTACHED) (is_horizontal b.direction) (is_forward b.direction)
  where
    by_type : (t h f : Bool) → (if t then carried h there (loose (position_at b i))
        else hung f (way_between b i j) there (loose (position_at b i))).attach_chain ≡ pos 0
    by_type true true f = refl
    by_type true false f = refl
    by_type false h true = refl
    by_type false h false = refl

rest-loose : (b : Buffer) (n i : ℕ) → (rest b n i).attach_chain ≡ pos 0
unfolding rest
rest-loose b zero i = refl
rest-loose b (suc n) i = by_parent (parent_of b i)
  where
    by_parent : (o : Option ℕ) → (option_map_or (λ j. moved_with b i j (rest b n j)) o (loose (position_at b i))).attach_chain ≡ pos 0
    by_parent None = refl
    by_parent (Some j) = moved-loose b i j (rest b n j)

rest-free : (b : Buffer) (n i : ℕ) → parent_of b i ≡ None → rest b n i ≡ loose (position_at b i)
unfolding rest
rest-free b zero i none = refl
rest-free b (suc n) i none = ap (λ o. option_map_or (λ j. moved_with b i j (rest b n j)) o (loose (position_at b i))) none

rest-on : (b : Buffer) (n i j : ℕ) → parent_of b i ≡ Some j → rest b (suc n) i ≡ moved_with b i j (rest b n j)
unfolding rest
rest-on b n i j some = ap (λ o. option_map_or (λ j. moved_with b i j (rest b n j)) o (loose (position_at b i))) some

-- a glyph of height 0 follows none
floor-free : (b : Buffer) (forest : IsForest b) (i : ℕ) → forest.height i ≤ 0 → parent_of b i ≡ None
floor-free b forest i low = by_parent (parent_of b i) refl
  where
    by_parent : (o : Option ℕ) → parent_of b i ≡ o → o ≡ None
    by_parent None is = refl
    by_parent (Some j) is = let falls = forest.falls i j is in absurd (omega (arith, falls, low))

-- over any number of links that is enough it is the same
rest-step : (b : Buffer) (forest : IsForest b) (n m i : ℕ) → forest.height i ≤ suc n → forest.height i ≤ suc m
    → ((j : ℕ) → forest.height j ≤ n → forest.height j ≤ m → rest b n j ≡ rest b m j) → rest b (suc n) i ≡ rest b (suc m) i
rest-step b forest n m i low other deeper = by_parent (parent_of b i) refl
  where
    by_parent : (o : Option ℕ) → parent_of b i ≡ o → rest b (suc n) i ≡ rest b (suc m) i
    by_parent None none = rest-free b (suc n) i none ∙ sym (rest-free b (suc m) i none)
    by_parent (Some j) some =
        let falls = forest.falls i j some in
        rest-on b n i j some ∙ ap (moved_with b i j) (deeper j (omega (arith, falls, low)) (omega (arith, falls, other)))
        ∙ sym (rest-on b m i j some)

rest-any : (b : Buffer) (forest : IsForest b) (n m i : ℕ) → forest.height i ≤ n → forest.height i ≤ m → rest b n i ≡ rest b m i
rest-any b forest zero m i low other =
    let none = floor-free b forest i low in
    rest-free b zero i none ∙ sym (rest-free b m i none)
rest-any b forest (suc n) zero i low other =
    let none = floor-free b forest i other in
    rest-free b (suc n) i none ∙ sym (rest-free b zero i none)
rest-any b forest (suc n) (suc m) i low other =
    rest-step b forest n m i low other (λ j less more. rest-any b forest n m j less more)

-- where a glyph comes to rest, over as many links as it is high
abbrev resting : (b : Buffer) → IsForest b → ℕ → GlyphPosition
resting b forest i = rest b (forest.height i) i

resting-on : (b : Buffer) (forest : IsForest b) (i j : ℕ) → parent_of b i ≡ Some j
    → resting b forest i ≡ moved_with b i j (resting b forest j)
resting-on b forest i j some =
    let n = forest.height i in
    let falls = forest.falls i j some in
    rest-any b forest n (suc n) i (omega arith) (omega arith) ∙ rest-on b n i j some
    ∙ ap (moved_with b i j) (rest-any b forest n (forest.height j) j (omega (arith, falls)) (omega arith))

resting-free : (b : Buffer) (forest : IsForest b) (i : ℕ) → parent_of b i ≡ None → resting b forest i ≡ loose (position_at b i)
resting-free b forest i none = rest-free b (forest.height i) i none

-- ---- a glyph comes to rest

-- of buffer `c`, made of `b` by some of the steps: each glyph as low as this stands as in `b`, or has come to rest
abbrev AreHalfway : (b : Buffer) → IsForest b → ℕ → Buffer → Type 0
AreHalfway b forest high c = (k : ℕ) → forest.height k ≤ high
    → (position_at c k ≡ position_at b k) ⊎ (position_at c k ≡ resting b forest k)

-- what following at place `i` does
record HasSettled (b : Buffer) (forest : IsForest b) (i : ℕ) (c d : Buffer) : Type 0 where
  put : IsPut c d
  ways : SameWays c d
  here : position_at d i ≡ resting b forest i
  others : (k : ℕ) → (position_at d k ≡ position_at c k) ⊎ (position_at d k ≡ resting b forest k)
  above : (k : ℕ) → forest.height i < forest.height k → position_at d k ≡ position_at c k

loose-rest : (b : Buffer) (n i : ℕ) → loose (rest b n i) ≡ rest b n i
loose-rest b n i = ap (λ (z : ℤ). record (rest b n i) { attach_chain = z }) (sym (rest-loose b n i))

-- the position after the link is taken off, of a glyph that follows none or has come to rest
freed-here : (b : Buffer) (i : ℕ) (c : Buffer) → i < length c.items → IsPut b c → position_at (freed i c) i ≡ loose (position_at c i)
freed-here b i c inside put = elim (cases_lt i (length c.positions)) [
  | inl less ↦ put-here i (loose (position_at c i)) c inside less
  | inr past ↦ past_end past
]
  where
    past_end : length c.positions ≤ i → position_at (freed i c) i ≡ loose (position_at c i)
    past_end past =
        let there = put-is i (loose (position_at c i)) c in
        let places = there.places in
        get_or_past (freed i c).positions i zero_position (omega (arith, past, places))
        ∙ sym (ap loose (get_or_past c.positions i zero_position past))

freed-settles : (b : Buffer) (forest : IsForest b) (i : ℕ) (c : Buffer) → position_at (freed i c) i ≡ resting b forest i
    → HasSettled b forest i c (freed i c)
freed-settles b forest i c here =
    let p = loose (position_at c i) in
    record {
      put = put-is i p c;
      ways = ways-freed i c;
      here = here;
      others = λ k. elim (cases_eq k i) [
        | inl same ↦ inr (subst (λ n. position_at (freed i c) n ≡ resting b forest n) (sym same) here)
        | inr apart ↦ inl (put-other i k p c apart)
      ];
      above = λ k high. put-other i k p c (λ same. absurd (omega (arith, high, ap forest.height same)));
    }

-- the glyph follows the one at place `j`, which has come to rest
follow-settles : (b : Buffer) (forest : IsForest b) (i j : ℕ) (c d : Buffer) → i < length c.items → IsPut b c → SameWays b c
    → parent_of b i ≡ Some j → position_at c i ≡ position_at b i → HasSettled b forest j (freed i c) d
    → HasSettled b forest i c (followed i j d)
follow-settles b forest i j c d inside put ways parent own settled =
    let free = put-is i (loose (position_at c i)) c in
    let falls = forest.falls i j parent in
    let all = put-then b c d put (put-then c (freed i c) d free settled.put) in
    let same_ways : SameWays b d = λ from to. settled.ways from to ∙ ways-freed i c from to ∙ ways from to in
    let has_place = parent-has_place b i j parent in
    let d_count = all.count in
    let d_places = all.places in
    let c_count = put.count in
    let here : position_at d i ≡ loose (position_at b i) =
    settled.above i falls ∙ freed-here b i c inside put ∙ ap loose own in
    let q = resting b forest j in
    let x = moved_with b i j q in
    let moved : followed i j d ≡ position_put i x d =
    followed-as b i j d q here settled.here all.direction (between-same b d i j all.direction same_ways) in
    let at_i : position_at (followed i j d) i ≡ resting b forest i =
    ap (λ (e : Buffer). position_at e i) moved
    ∙ put-here i x d (omega (arith, inside, c_count, d_count)) (omega (arith, has_place, d_places))
    ∙ sym (resting-on b forest i j parent) in
    let elsewhere : (k : ℕ) → (k ≡ i → ⊥) → position_at (followed i j d) k ≡ position_at d k =
    λ k apart. ap (λ (e : Buffer). position_at e k) moved ∙ put-other i k x d apart in
    record {
      put = put-then c d (followed i j d) (put-then c (freed i c) d free settled.put)
          (subst (λ (e : Buffer). IsPut d e) (sym moved) (put-is i x d));
      ways = λ from to. ways-followed i j d from to ∙ settled.ways from to ∙ ways-freed i c from to;
      here = at_i;
      others = λ k. elim (cases_eq k i) [
        | inl same ↦ inr (subst (λ n. position_at (followed i j d) n ≡ resting b forest n) (sym same) at_i)
        | inr apart ↦ elim (settled.others k) [
          | inl still ↦ inl (elsewhere k apart ∙ still ∙ put-other i k (loose (position_at c i)) c apart)
          | inr rests ↦ inr (elsewhere k apart ∙ rests)
        ]
      ];
      above = λ k high.
          let apart : k ≡ i → ⊥ = λ same. absurd (omega (arith, high, ap forest.height same)) in
          elsewhere k apart ∙ settled.above k (omega (arith, high, falls)) ∙ put-other i k (loose (position_at c i)) c apart;
    }
  where
    followed-as : (b : Buffer) (i j : ℕ) (d : Buffer) (q : GlyphPosition) → position_at d i ≡ loose (position_at b i) → position_at d j ≡ q
        → d.direction ≡ b.direction → way_between d i j ≡ way_between b i j → followed i j d ≡ position_put i (moved_with b i j q) d
    followed-as b i j d q here there direction between =
        ap (λ (p : GlyphPosition). position_put i (if nat_eq p.attach_type CURSIVE_ATTACHED
        then carried (is_horizontal d.direction) (position_at d j) p
        else hung (is_forward d.direction) (way_between d i j) (position_at d j) p) d) here
        ∙ ap (λ (r : GlyphPosition). position_put i (if nat_eq (loose (position_at b i)).attach_type CURSIVE_ATTACHED
        then carried (is_horizontal d.direction) r (loose (position_at b i))
        else hung (is_forward d.direction) (way_between d i j) r (loose (position_at b i))) d) there
        ∙ ap (λ (w : Pen). position_put i (if nat_eq (loose (position_at b i)).attach_type CURSIVE_ATTACHED
        then carried (is_horizontal d.direction) q (loose (position_at b i))
        else hung (is_forward d.direction) w q (loose (position_at b i))) d) between
        ∙ ap (λ (e : Direction). position_put i (if nat_eq (loose (position_at b i)).attach_type CURSIVE_ATTACHED
        then carried (is_horizontal e) q (loose (position_at b i))
        else hung (is_forward e) (way_between b i j) q (loose (position_at b i))) d) direction

-- a glyph that follows none, or has come to rest, stays
still-settles : (b : Buffer) (forest : IsForest b) (level i : ℕ) (c : Buffer) → i < length c.items → IsPut b c
    → parent_of c i ≡ None → loose (position_at c i) ≡ resting b forest i → HasSettled b forest i c (settled level i c)
still-settles b forest level i c inside put none rests =
    subst (HasSettled b forest i c) (sym (settled_free level i c none))
    (freed-settles b forest i c (freed-here b i c inside put ∙ rests))

rested-none : (b : Buffer) (n i : ℕ) (c : Buffer) → position_at c i ≡ rest b n i → parent_of c i ≡ None
rested-none b n i c rested = ap (place_at (length c.items) i) (ap (λ (p : GlyphPosition). p.attach_chain) rested ∙ rest-loose b n i)

parent-same : (b : Buffer) (i : ℕ) (c : Buffer) → IsPut b c → position_at c i ≡ position_at b i → parent_of c i ≡ parent_of b i
parent-same b i c put own =
    ap (λ (p : GlyphPosition). place_at (length c.items) i p.attach_chain) own
    ∙ ap (λ n. place_at n i (position_at b i).attach_chain) put.count

-- glyphs before place `first` have come to rest
abbrev AreRested : (b : Buffer) → IsForest b → ℕ → Buffer → Type 0
AreRested b forest first c = (k : ℕ) → k < first → position_at c k ≡ resting b forest k

-- what is to be shown of each level
abbrev Settles : (b : Buffer) → IsForest b → ℕ → ℕ → Type 0
Settles b forest first level = (i : ℕ) (c : Buffer) → i < length c.items → IsPut b c → SameWays b c
    → AreHalfway b forest (forest.height i) c → AreRested b forest first c → ends_within b first level i ≡ true
    → HasSettled b forest i c (settled level i c)

halfway-below : (b : Buffer) (forest : IsForest b) (i j : ℕ) (c : Buffer) → forest.height j < forest.height i
    → AreHalfway b forest (forest.height i) c → AreHalfway b forest (forest.height j) (freed i c)
halfway-below b forest i j c falls half k low =
    let same : position_at (freed i c) k ≡ position_at c k =
    put-other i k (loose (position_at c i)) c (λ is. absurd (omega (arith, falls, low, ap forest.height is))) in
    elim (half k (omega (arith, falls, low))) [ inl still ↦ inl (same ∙ still) | inr rests ↦ inr (same ∙ rests) ]

rested-below : (b : Buffer) (forest : IsForest b) (first i : ℕ) (c : Buffer) → first ≤ i → AreRested b forest first c
    → AreRested b forest first (freed i c)
rested-below b forest first i c later rested k less =
    put-other i k (loose (position_at c i)) c (λ is. absurd (omega (arith, later, less, is))) ∙ rested k less

rested-settles : (b : Buffer) (forest : IsForest b) (level i : ℕ) (c : Buffer) → i < length c.items → IsPut b c
    → position_at c i ≡ resting b forest i → HasSettled b forest i c (settled level i c)
rested-settles b forest level i c inside put rested =
    still-settles b forest level i c inside put (rested-none b (forest.height i) i c rested)
    (ap loose rested ∙ loose-rest b (forest.height i) i)

free-settles : (b : Buffer) (forest : IsForest b) (level i : ℕ) (c : Buffer) → i < length c.items → IsPut b c
    → position_at c i ≡ position_at b i → parent_of b i ≡ None → HasSettled b forest i c (settled level i c)
free-settles b forest level i c inside put own none =
    still-settles b forest level i c inside put (parent-same b i c put own ∙ none) (ap loose own ∙ sym (resting-free b forest i none))

own-settles : (b : Buffer) (forest : IsForest b) (first level : ℕ) → Settles b forest first level → (i : ℕ) (c : Buffer)
    → i < length c.items → IsPut b c → SameWays b c → AreHalfway b forest (forest.height i) c → AreRested b forest first c → first ≤ i
    → option_map_or (ends_within b first level) (parent_of b i) true ≡ true
    → position_at c i ≡ position_at b i → HasSettled b forest i c (settled (suc level) i c)
own-settles b forest first level deeper i c inside put ways half rested later ends own = by_parent (parent_of b i) refl
  where
    same : parent_of c i ≡ parent_of b i
    same = parent-same b i c put own

    by_parent : (o : Option ℕ) → parent_of b i ≡ o → HasSettled b forest i c (settled (suc level) i c)
    by_parent None none = free-settles b forest (suc level) i c inside put own none
    by_parent (Some j) some =
        let falls = forest.falls i j some in
        let free = put-is i (loose (position_at c i)) c in
        let count = free.count in
        let j_inside = place-inside (length c.items) i (position_at c i).attach_chain j inside (same ∙ some) in
        let there =
        deeper j (freed i c) (omega (arith, j_inside, count)) (put-then b c (freed i c) put free)
        (λ from to. ways-freed i c from to ∙ ways from to) (halfway-below b forest i j c falls half)
        (rested-below b forest first i c later rested)
        (ap (λ o. option_map_or (ends_within b first level) o true) (sym some) ∙ ends) in
        subst (HasSettled b forest i c)
        (sym (ap (λ o. option_map_or (λ j. followed i j (settled level j (freed i c))) o (freed i c)) (same ∙ some)))
        (follow-settles b forest i j c (settled level j (freed i c)) inside put ways some own there)

-- a place before `first`, or one where the chain goes on
by_first : {P : Type 0} (i first : ℕ) (later : Bool) → (nat_lt i first || later) ≡ true → (i < first → P) → (first ≤ i → later ≡ true → P) → P
by_first {P} i first later ends before after = by_order (nat_lt i first) refl ends
  where
    by_order : (t : Bool) → nat_lt i first ≡ t → (t || later) ≡ true → P
    by_order true is e = before (grind (arith, nat_tests, is))
    by_order false is e = after (grind (arith, nat_tests, is)) e

floor-settles : (b : Buffer) (forest : IsForest b) (first : ℕ) → Settles b forest first zero
floor-settles b forest first i c inside put ways half rested ends =
    by_first i first (not (is_some (parent_of b i))) ends (λ less. rested-settles b forest zero i c inside put (rested i less))
    (λ later none. elim (half i (omega arith)) [
      | inl own ↦ free-settles b forest zero i c inside put own (none-of (parent_of b i) none)
      | inr rests ↦ rested-settles b forest zero i c inside put rests
    ])
  where
    none-of : (o : Option ℕ) → not (is_some o) ≡ true → o ≡ None
    none-of None e = refl
    none-of (Some j) e = absurd (let bad : false ≡ true = e in cc)

settled-rests : (b : Buffer) (forest : IsForest b) (first level : ℕ) → Settles b forest first level
settled-rests b forest first zero i c inside put ways half rested ends = floor-settles b forest first i c inside put ways half rested ends
settled-rests b forest first (suc level) i c inside put ways half rested ends =
    by_level (λ j d. settled-rests b forest first level j d)
  where
    by_level : Settles b forest first level → HasSettled b forest i c (settled (suc level) i c)
    by_level deeper =
        by_first i first (option_map_or (ends_within b first level) (parent_of b i) true) ends
        (λ less. rested-settles b forest (suc level) i c inside put (rested i less))
        (λ later on. elim (half i (omega arith)) [
          | inl own ↦ own-settles b forest first level deeper i c inside put ways half rested later on own
          | inr rests ↦ rested-settles b forest (suc level) i c inside put rests
        ])

-- ---- each glyph in turn

record AreSettled (b : Buffer) (forest : IsForest b) (c : Buffer) (n : ℕ) : Type 0 where
  put : IsPut b c
  ways : SameWays b c
  rested : (k : ℕ) → k < n → position_at c k ≡ resting b forest k
  halfway : (k : ℕ) → (position_at c k ≡ position_at b k) ⊎ (position_at c k ≡ resting b forest k)

next-settled : (b : Buffer) (forest : IsForest b) (n : ℕ) (c : Buffer) → suc n ≤ length b.items → AreSettled b forest c n
    → AreSettled b forest (settled MOST_LINKS n c) (suc n)
next-settled b forest n c inside before =
    let count = before.put.count in
    let now =
    settled-rests b forest n MOST_LINKS n c (omega (arith, inside, count)) before.put before.ways (λ k less. before.halfway k) before.rested
    (forest.short n) in
    record {
      put = put-then b c (settled MOST_LINKS n c) before.put now.put;
      ways = λ from to. now.ways from to ∙ before.ways from to;
      rested = λ k less. elim (cases_eq k n) [
        | inl same ↦ subst (λ m. position_at (settled MOST_LINKS n c) m ≡ resting b forest m) (sym same) now.here
        | inr apart ↦ elim (now.others k) [
          | inl still ↦ still ∙ before.rested k (omega (arith, less, apart))
          | inr rests ↦ rests
        ]
      ];
      halfway = λ k. elim (now.others k) [
        | inl still ↦ elim (before.halfway k) [ inl own ↦ inl (still ∙ own) | inr rests ↦ inr (still ∙ rests) ]
        | inr rests ↦ inr rests
      ];
    }

each-settled : (b : Buffer) (forest : IsForest b) (n : ℕ) → n ≤ length b.items → AreSettled b forest (each (settled MOST_LINKS) n b) n
each-settled b forest zero within = record {
  put = record { count = refl; places = refl; direction = refl };
  ways = λ from to. refl;
  rested = λ k less. absurd (omega (arith, less));
  halfway = λ k. inl refl;
}
each-settled b forest (suc n) within =
    next-settled b forest n (each (settled MOST_LINKS) n b) within (each-settled b forest n (omega (arith, within)))

finished : (b : Buffer) (forest : IsForest b) → AreSettled b forest (offsets_finished b) (length b.items)
finished b forest = each-settled b forest (length b.items) (omega arith)

-- ---- what holds at the end

pub finished-follows : (b : Buffer) → IsForest b → (i j : ℕ) → i < length b.items → parent_of b i ≡ Some j
    → position_at (offsets_finished b) i ≡ moved_with b i j (position_at (offsets_finished b) j)
finished-follows b forest i j inside some =
    let end = finished b forest in
    let j_inside = place-inside (length b.items) i (position_at b i).attach_chain j inside some in
    end.rested i inside ∙ resting-on b forest i j some ∙ ap (moved_with b i j) (sym (end.rested j j_inside))

pub finished-stays : (b : Buffer) → IsForest b → (i : ℕ) → i < length b.items → parent_of b i ≡ None
    → position_at (offsets_finished b) i ≡ loose (position_at b i)
finished-stays b forest i inside none = (finished b forest).rested i inside ∙ resting-free b forest i none

pub finished-ways : (b : Buffer) → IsForest b → (from to : ℕ) → way (offsets_finished b) from to ≡ way b from to
finished-ways b forest = (finished b forest).ways

pub finished-count : (b : Buffer) → IsForest b → length (offsets_finished b).items ≡ length b.items
finished-count b forest = (finished b forest).put.count

pub finished-direction : (b : Buffer) → IsForest b → (offsets_finished b).direction ≡ b.direction
finished-direction b forest = (finished b forest).put.direction
