-- The table morx preserves clusters and flags, whatever the bytes of the font are: each step of a walk does, so does a subtable over
-- the list in either order, and so do the parts of the table, one after the other.
use Prim.Native.Nat.{zero}
use Rattle.std.proofs.Common.{ℕ, suc, ◌+◌, ◌-◌, ◌||◌, Bool, true, false, List, [], ◌∷◌, length, replicate, reverse, nat_eq, nat_lt}
use Rattle.std.proofs.Common.{refl, sym, ◌∙◌, subst, inl, arith, if◌then◌else◌}
use Rattle.shape_font.specs.Bytes.{u32_of}
use Rattle.shape_items.specs.Buffer.{Buffer}
use Rattle.shape_items.specs.BufferClusters.{unsafe_to_concat}
use Rattle.shape_items.specs.ClusterOrder.{PreservesClusters}
use Rattle.shape_items.specs.Clusters.{clusters}
use Rattle.shape_items.specs.PreservesFlags.{PreservesFlags}
use Rattle.shape_items.proofs.Flags.FlagLemmas.{PreservesFlags-then}
use Rattle.shape_items.proofs.Order.ReversedLemmas.{Contains-reverse, clusters-reverse, falls-reverse, rises-reverse, some_has-reverse}
use Rattle.shape_buffer.specs.Preservation.{IsClusterPreserving, IsFlagPreserving}
use Rattle.apple_tables.specs.declared.states.Entry.{Entry}
use Rattle.apple_substitution.specs.ChainRuns as chain_rules
use Rattle.apple_substitution.specs.ChainRuns.{chain_at, chain_run, chain_work, first_subtable, subtable_count, subtable_work}
use Rattle.apple_substitution.specs.Contextual as contextual_rules
use Rattle.apple_substitution.specs.Driver.{Actions, Rules, Spot}
use Rattle.apple_substitution.specs.Drives.{Drive, advanced, drive_on, driven_by, entered, first_drive, gone_on, is_safe_to_break, looked_at}
use Rattle.apple_substitution.specs.Drives.{looks_again, marked, met_at, most_steps, passed, step, transited, walked}
use Rattle.apple_substitution.specs.Edits.{broken, charged, is_past}
use Rattle.apple_substitution.specs.Insertion as insertion_rules
use Rattle.apple_substitution.specs.Ligature as ligature_rules
use Rattle.apple_substitution.specs.Metamorphosis.{chains_run, is_present, metamorphosed}
use Rattle.apple_substitution.specs.Parts.{all_run, is_spent, places_from}
use Rattle.apple_substitution.specs.Ranges.{STEP_WORK, walk_work}
use Rattle.apple_substitution.specs.Rearrangement as rearrangement_rules
use Rattle.apple_substitution.specs.Subtables.{HEADER, Source, acted, acted_in_order, coverage_of, inserted, joined, kind_of, ran, rearranged}
use Rattle.apple_substitution.specs.Subtables.{reversed, rules_at, runs, substituted, substituted_in_context, wanted_of}
use Rattle.apple_substitution.specs.Chains.{is_reversed}
use Rattle.apple_substitution.specs.declared.driver.Met.{Met}
use Rattle.apple_substitution.specs.declared.parts.TheConstants.{CHAIN, SUBTABLE}
use Rattle.apple_substitution.proofs.GlyphPreservation.{context-preserves, ligature-preserves, substituted-preserves}
use Rattle.apple_substitution.proofs.InsertionPreservation.{insertion-preserves}
use Rattle.apple_substitution.proofs.PreservedLemmas.{Preserves, Preserves-broken, Preserves-charged, Preserves-concat, Preserves-if, Preserves-order}
use Rattle.apple_substitution.proofs.PreservedLemmas.{Preserves-paid, Preserves-same, Preserves-then}
use Rattle.apple_substitution.proofs.RearrangementPreservation.{rearrangement-preserves}

-- ---- a walk of which each transition preserves

abbrev EachPreserves : {T : Type 0} → Actions T → Type 0
EachPreserves {T} a = (e : Entry) (s : Spot T) → Preserves s.buffer (a.transition e s).buffer

marked-preserves : {T : Type 0} (r : Rules) (a : Actions T) (memory : T) (at : ℕ) (met : Met) (b : Buffer)
    → Preserves b (marked r a memory at met b)
marked-preserves r a memory at met b =
    Preserves-if (nat_eq at 0 || (met.ends || is_safe_to_break r a memory met)) b b (broken (at - 1) (at + 1) b) (Preserves-same b)
    (Preserves-broken (at - 1) (at + 1) b)

advanced-preserves : {T : Type 0} (e : Entry) (d : Drive T) → Preserves d.buffer (advanced e d).buffer
advanced-preserves e d =
    Preserves-if (looks_again e d.walk d.buffer) d.buffer (charged STEP_WORK d.buffer) d.buffer (Preserves-charged STEP_WORK d.buffer)
    (Preserves-same d.buffer)

entered-preserves : {T : Type 0} (r : Rules) (a : Actions T) → EachPreserves a → (d : Drive T) → Preserves d.buffer (entered r a d).buffer
unfolding entered
entered-preserves {T} r a each d =
    let met : Met = met_at r d.walk d.buffer in
    let there : Buffer = marked r a d.memory d.walk.at met d.buffer in
    let made : Drive T = transited a met.entry (record d { buffer = there }) in
    Preserves-then d.buffer there (advanced met.entry made).buffer (marked-preserves r a d.memory d.walk.at met d.buffer)
    (Preserves-then there made.buffer (advanced met.entry made).buffer
    (each met.entry (record { buffer = there; at = d.walk.at; memory = d.memory })) (advanced-preserves met.entry made))

drive-if : {T : Type 0} (t : Bool) (b : Buffer) (x y : Drive T) → Preserves b x.buffer → Preserves b y.buffer
    → Preserves b (if t then x else y).buffer
drive-if true b x y k m = k
drive-if false b x y k m = m

gone_on-preserves : {T : Type 0} (r : Rules) (a : Actions T) → EachPreserves a → (d : Drive T) → Preserves d.buffer (gone_on r a d).buffer
unfolding gone_on
gone_on-preserves r a each d =
    drive-if d.walk.is_on d.buffer (entered r a d) (record d { walk = passed d.walk d.buffer }) (entered-preserves r a each d)
    (Preserves-same d.buffer)

step-preserves : {T : Type 0} (r : Rules) (a : Actions T) → EachPreserves a → (d : Drive T) → Preserves d.buffer (step r a d).buffer
unfolding step
step-preserves r a each d =
    drive-if (d.walk.has_ended || is_past d.buffer) d.buffer d (gone_on r a (record d { walk = looked_at r d.walk d.buffer }))
    (Preserves-same d.buffer) (gone_on-preserves r a each (record d { walk = looked_at r d.walk d.buffer }))

drive-preserves : {T : Type 0} (r : Rules) (a : Actions T) → EachPreserves a → (n : ℕ) (d : Drive T)
    → Preserves d.buffer (drive_on r a n d).buffer
drive-preserves r a each zero d = Preserves-same d.buffer
drive-preserves r a each (suc n) d =
    Preserves-then d.buffer (step r a d).buffer (drive_on r a n (step r a d)).buffer (step-preserves r a each d)
    (drive-preserves r a each n (step r a d))

pub driven-preserves : {T : Type 0} (r : Rules) (ranges : ℕ) (a : Actions T) (memory : T) (b : Buffer) → EachPreserves a
    → Preserves b (driven_by r ranges a memory b)
driven-preserves r ranges a memory b each =
    let work : ℕ = walk_work ranges b in
    let paid : Buffer = charged work b in
    Preserves-paid (nat_lt b.max_ops work) work b (walked r a memory paid)
    (drive-preserves r a each (most_steps paid) (first_drive memory paid))

-- ---- a subtable, by its kind

acted-preserves : (s : Source) (at : ℕ) (b : Buffer) → Preserves b (acted s at b)
unfolding acted
acted-preserves s at b =
    let kind : ℕ = kind_of s.morx at in
    Preserves-if (nat_eq kind 0) b (rearranged s at b) _
    (driven-preserves (rules_at s at 4) (length s.ranges) rearrangement_rules.actions (record { first = 0; end = 0 }) b
    rearrangement-preserves)
    (Preserves-if (nat_eq kind 1) b (substituted_in_context s at b) _
    (let source : contextual_rules.Source = record { morx = s.morx; gdef = s.gdef; start = at + HEADER; glyphs = s.glyphs } in
    driven-preserves (rules_at s at 8) (length s.ranges) (contextual_rules.actions source) (record { place = 0; is_set = false }) b
    (context-preserves source))
    (Preserves-if (nat_eq kind 2) b (joined s at b) _
    (driven-preserves (rules_at s at 6) (length s.ranges) (ligature_rules.actions s.morx (at + HEADER))
    (record { count = 0; places = replicate 64 0 }) b (ligature-preserves s.morx (at + HEADER)))
    (Preserves-if (nat_eq kind 4) b (substituted s at b) _
    (substituted-preserves (record { morx = s.morx; gdef = s.gdef; start = at + HEADER; glyphs = s.glyphs }) s.ranges
    (wanted_of s.morx at) b)
    (Preserves-if (nat_eq kind 5) b (inserted s at b) b
    (driven-preserves (rules_at s at 8) (length s.ranges) (insertion_rules.actions s.morx (at + HEADER)) 0 b
    (insertion-preserves s.morx (at + HEADER)))
    (Preserves-same b)))))

-- ---- over the list from its end

order-turned : (xs ys : List ℕ) → PreservesClusters (reverse xs) ys → PreservesClusters xs (reverse ys)
order-turned xs ys keeps = record {
  rising = λ rises. rises-reverse ys (keeps.falling (falls-reverse xs rises));
  falling = λ falls. falls-reverse ys (keeps.rising (rises-reverse xs falls));
  none_new = λ k there. Contains-reverse xs k (keeps.none_new k (Contains-reverse ys k there));
}

flags-reversed : (b : Buffer) → PreservesFlags b (reversed b)
flags-reversed b = record {
  flags = refl;
  stays_set = λ set. set;
  none_new = λ flag defined some. inl (sym (some_has-reverse flag b.items) ∙ some);
}

turned-preserves : (f : Buffer → Buffer) → ((b : Buffer) → Preserves b (f b)) → (b : Buffer) → Preserves b (reversed (f (reversed b)))
turned-preserves f each b =
    let there : Buffer = f (reversed b) in
    let keeps : Preserves (reversed b) there = each (reversed b) in
    record {
      order = λ monotone. subst (λ (cs : List ℕ). PreservesClusters (clusters b.items) cs) (sym (clusters-reverse there.items))
          (order-turned (clusters b.items) (clusters there.items)
          (subst (λ (cs : List ℕ). PreservesClusters cs (clusters there.items)) (clusters-reverse b.items) (keeps.order monotone)));
      flags = PreservesFlags-then b (reversed b) (reversed there) (flags-reversed b)
          (PreservesFlags-then (reversed b) there (reversed there) keeps.flags (flags-reversed there));
      direction = keeps.direction;
      level = keeps.level;
      limit = keeps.limit;
      left = keeps.left;
    }

in_order-preserves : (s : Source) (at : ℕ) (b : Buffer) → Preserves b (acted_in_order s at b)
unfolding acted_in_order
in_order-preserves s at b =
    Preserves-if (is_reversed (coverage_of s.morx at) b.direction) b (reversed (acted s at (reversed b))) (acted s at b)
    (turned-preserves (acted s at) (acted-preserves s at) b) (acted-preserves s at b)

pub ran-preserves : (s : Source) (at : ℕ) (b : Buffer) → Preserves b (ran s at b)
unfolding ran
ran-preserves s at b = Preserves-if (runs s at b.direction) b (acted_in_order s at b) b (in_order-preserves s at b) (Preserves-same b)

-- ---- the parts of the table

parts-preserve : (work : ℕ → ℕ) (run : ℕ → Buffer → Buffer) → ((at : ℕ) (b : Buffer) → Preserves b (run at b))
    → (places : List ℕ) (b : Buffer) → Preserves b (all_run work run places b)
parts-preserve work run each [] b = Preserves-same b
parts-preserve work run each (at ∷ places) b =
    let paid : Buffer = charged (work at) b in
    let there : Buffer = run at paid in
    Preserves-if (is_spent (work at) b) b b (all_run work run places there) (Preserves-same b)
    (Preserves-then b paid (all_run work run places there) (Preserves-charged (work at) b)
    (Preserves-then paid there (all_run work run places there) (each at paid) (parts-preserve work run each places there)))

chain-preserves : (s : chain_rules.Source) (chain : ℕ) (b : Buffer) → Preserves b (chain_run s chain b)
unfolding chain_run
chain-preserves s chain b =
    parts-preserve (λ at. subtable_work (chain_at s chain)) (ran (chain_at s chain)) (ran-preserves (chain_at s chain))
    (places_from s.morx SUBTABLE (subtable_count s.morx chain) (first_subtable s.morx chain)) b

pub morx-preserves : (s : chain_rules.Source) (b : Buffer) → Preserves b (metamorphosed s b)
unfolding metamorphosed
morx-preserves s b =
    let there : Buffer = unsafe_to_concat 0 (length b.items) b in
    Preserves-if (is_present s.morx) b (chains_run s (u32_of s.morx 4) there) b
    (Preserves-then b there (chains_run s (u32_of s.morx 4) there) (Preserves-concat 0 (length b.items) b (omega arith))
    (parts-preserve (chain_work s) (chain_run s) (chain-preserves s) (places_from s.morx CHAIN (u32_of s.morx 4) 8) there)) (Preserves-same b)

-- ---- what that is of a step of a run

pub morx-order : (s : chain_rules.Source) → IsClusterPreserving (metamorphosed s)
morx-order s b monotone = Preserves-order b (metamorphosed s b) (morx-preserves s b) monotone

pub morx-flags : (s : chain_rules.Source) → IsFlagPreserving (metamorphosed s)
morx-flags s b = (morx-preserves s b).flags
