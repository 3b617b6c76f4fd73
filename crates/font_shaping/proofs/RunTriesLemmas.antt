-- the calls of a run make what its steps make, and pay for what they try
use Prim.Native.Nat.{zero}
use Rattle.std.proofs.Common.{◌≡◌, ℕ, suc, List, [], ◌∷◌, ◌++◌, ◌&&◌, Bool, true, false, Option, Some, None, ◌+◌, ◌≤◌, if◌then◌else◌, length, refl, sym, ap, subst, ◌∙◌, arith}
use Rattle.shape_items.specs.Buffer.{Buffer, run_ops}
use Rattle.shape_buffer.specs.Layout.{LookupMeaning}
use Rattle.shape_buffer.specs.Outcome.{Step, step, run_steps}
use Rattle.shape_buffer.specs.Preservation.{EachStep, EachLookup}
use Rattle.shape_common.specs.declared.text_types.Direction.{Direction}
use Rattle.shape_fallback.specs.DueSteps.{recategorize_step, spaces_step, marks_step}
use Rattle.shape_glyphs.specs.Steps.{advance_steps, place_steps, table_steps, close_steps, position_steps, finish_steps, substitute_pre_steps}
use Rattle.shape_glyphs.specs.Substitution.{glyph_steps, paused, stage_steps, lookup_steps, substitute_steps}
use Rattle.shape_glyphs.specs.Tables.{table_positioned, kerned, tracked}
use Rattle.shape_glyphs.specs.Zeroing.{zeroed_early, zeroed_late}
use Rattle.shape_normalize.specs.Normalized.{normalized}
use Rattle.shape_pipeline.specs.Shaped.{normalising, glyph_phase, shaped_steps, all_steps, entered}
use Rattle.std.specs.Option.{option_map, option_map_or}
use Rattle.shape_common.specs.Unicode.{UnicodeMeaning}
use Rattle.shape_plan.specs.Run.{Run, step_if, hook_if}
use Rattle.shape_plan.specs.Shaper.{HookMeaning}
use Rattle.shape_plan.specs.Shapers.{no_hooks}
use Rattle.shape_prepare.specs.MaskSteps.{mask_steps}
use Rattle.shape_prepare.specs.PrepareSteps.{prepare_steps}
use Rattle.layout_map.specs.Map.{OtMap}
use Rattle.opentype_layout.proofs.CallLemmas.{stage-pays, position-pays, never-raises, in-turn}
use Rattle.opentype_layout.specs.Engine.{opentype_lookups}
use Rattle.opentype_layout.specs.Tries.{Call, stage_call, position_call, other_call, made_by, tries_by, Pays, EachPays, NeverRaises}
use Rattle.opentype_layout.specs.declared.face.OpenTypeFace.{OpenTypeFace}
use Rattle.font_shaping.specs.RunTries.{calls_of, stage_calls, lookup_calls, substitute_calls, place_calls, position_calls, run_calls, before_lookups, before_placing}
use Rattle.font_shaping.specs.RunTries.{HooksNeverRaise, NeverRaisesBy, TriesWithin, TriesNoMore}

-- ---- calls that make what steps make

abbrev Calls : List Step → List Call → Type 0
Calls steps calls = (b : Buffer) → made_by calls b ≡ run_steps steps b

made-append : (cs ds : List Call) (b : Buffer) → made_by (cs ++ ds) b ≡ made_by ds (made_by cs b)
made-append [] ds b = refl
made-append (c ∷ cs) ds b = made-append cs ds (c.makes b)

run-append : (ss ts : List Step) (b : Buffer) → run_steps (ss ++ ts) b ≡ run_steps ts (run_steps ss b)
run-append [] ts b = refl
run-append (s ∷ ss) ts b = run-append ss ts (s.makes b)

append : (ss ts : List Step) (cs ds : List Call) → Calls ss cs → Calls ts ds → Calls (ss ++ ts) (cs ++ ds)
append ss ts cs ds first later b =
    made-append cs ds b ∙ later (made_by cs b) ∙ ap (run_steps ts) (first b) ∙ sym (run-append ss ts b)

others : (ss : List Step) → Calls ss (calls_of ss)
others [] b = refl
others (s ∷ ss) b = others ss (s.makes b)

stages : (m : OtMap) (f : OpenTypeFace) (run : Run) → run.lookups ≡ opentype_lookups m f → (n : ℕ)
    → Calls (stage_steps run n) (stage_calls m f run n)
stages m f run is zero = λ b. refl
stages m f run is (suc n) =
    append (stage_steps run n) (step (run.lookups.stage n) ∷ step (paused run n) ∷ []) (stage_calls m f run n)
    (stage_call m f n ∷ other_call (paused run n) ∷ []) (stages m f run is n)
    (λ b. ap (λ (l : LookupMeaning). paused run n (l.stage n b)) (sym is))

lookups : (m : OtMap) (f : OpenTypeFace) (run : Run) → run.lookups ≡ opentype_lookups m f → Calls (lookup_steps run) (lookup_calls m f run)
lookups m f run is b =
    let morx : Call = other_call (run.lookups.aat_substitute run.user_features) in
    elim run.decisions.apply_morx as (λ t.
    made_by (if t then morx ∷ [] else stage_calls m f run run.map.stages) b
    ≡ run_steps (if t then step (run.lookups.aat_substitute run.user_features) ∷ [] else stage_steps run run.map.stages) b) [
      | true ↦ refl
      | false ↦ stages m f run is run.map.stages b
    ]

substitutes : (m : OtMap) (f : OpenTypeFace) (run : Run) → run.lookups ≡ opentype_lookups m f
    → Calls (substitute_pre_steps run) (substitute_calls m f run)
substitutes m f run is b =
    let last = step_if (run.decisions.apply_morx && run.decisions.apply_gpos) run.lookups.aat_remove_deleted in
    append (glyph_steps run) (substitute_steps run) (calls_of (glyph_steps run)) (lookup_calls m f run ++ (other_call last ∷ []))
    (others (glyph_steps run))
    (append (lookup_steps run) (step last ∷ []) (lookup_calls m f run) (other_call last ∷ []) (lookups m f run is) (λ c. refl))
    (recategorize_step run.decisions b)

placed : (m : OtMap) (f : OpenTypeFace) (run : Run) → run.lookups ≡ opentype_lookups m f → (b : Buffer)
    → (if run.decisions.apply_gpos then position_call m f
    else other_call (step_if run.decisions.apply_kerx (run.lookups.aat_position run.decisions.kern_mask))).makes b
    ≡ table_positioned run.lookups run.decisions b
placed m f run is b =
    let kerx = step_if run.decisions.apply_kerx (run.lookups.aat_position run.decisions.kern_mask) in
    elim run.decisions.apply_gpos as (λ t.
    (if t then position_call m f else other_call kerx).makes b ≡ (if t then run.lookups.position else kerx) b) [
      | true ↦ ap (λ (l : LookupMeaning). l.position b) (sym is)
      | false ↦ refl
    ]

places : (m : OtMap) (f : OpenTypeFace) (run : Run) → run.lookups ≡ opentype_lookups m f → Calls (place_steps run) (place_calls m f run)
places m f run is b =
    ap (λ c. zeroed_late run (tracked run.lookups run.decisions (kerned run.lookups run.decisions c))) (placed m f run is (zeroed_early run (run.lookups.position_start b)))

positions : (m : OtMap) (f : OpenTypeFace) (run : Run) → run.lookups ≡ opentype_lookups m f
    → Calls (position_steps run) (position_calls m f run)
positions m f run is =
    let spaces = spaces_step run.face in
    let marks = marks_step run.unicode run.face run.direction run.script run.decisions in
    let tables = place_calls m f run ++ calls_of (close_steps run) in
    append (advance_steps run) (step spaces ∷ (table_steps run ++ (step marks ∷ []))) (calls_of (advance_steps run))
    (other_call spaces ∷ (tables ++ (other_call marks ∷ []))) (others (advance_steps run))
    (λ b. append (table_steps run) (step marks ∷ []) tables (other_call marks ∷ [])
    (append (place_steps run) (close_steps run) (place_calls m f run) (calls_of (close_steps run)) (places m f run is)
    (others (close_steps run)))
    (λ c. refl) (spaces b))

pub calls : (m : OtMap) (f : OpenTypeFace) (run : Run) (target : Direction) → run.lookups ≡ opentype_lookups m f
    → Calls (all_steps run target) (run_calls m f run target)
calls m f run target is =
    let glyphs = calls_of (mask_steps run) ++ substitute_calls m f run in
    let placing = position_calls m f run ++ calls_of (finish_steps run) in
    append (prepare_steps run target) (normalising run.rules ∷ shaped_steps run) (calls_of (prepare_steps run target))
    (other_call (normalized run.rules) ∷ (glyphs ++ placing)) (others (prepare_steps run target))
    (λ b. append (glyph_phase run) (position_steps run ++ finish_steps run) glyphs placing
    (append (mask_steps run) (substitute_pre_steps run) (calls_of (mask_steps run)) (substitute_calls m f run) (others (mask_steps run))
    (substitutes m f run is))
    (append (position_steps run) (finish_steps run) (position_calls m f run) (calls_of (finish_steps run)) (positions m f run is)
    (others (finish_steps run)))
    (normalized run.rules b))

-- ---- what they try

tries-append : (cs ds : List Call) (b : Buffer) → tries_by (cs ++ ds) b ≡ tries_by cs b + tries_by ds (made_by cs b)
tries-append [] ds b = omega arith
tries-append (c ∷ cs) ds b = let later = tries-append cs ds (c.makes b) in omega (arith, later)

pub others-try_none : (ss : List Step) (b : Buffer) → tries_by (calls_of ss) b ≡ 0
others-try_none [] b = refl
others-try_none (s ∷ ss) b = let later = others-try_none ss (s.makes b) in omega (arith, later)

-- steps that try nothing, and then calls
tries-after : (ss : List Step) (ds : List Call) (b : Buffer) → tries_by (calls_of ss ++ ds) b ≡ tries_by ds (run_steps ss b)
tries-after ss ds b =
    let both = tries-append (calls_of ss) ds b in
    let none = others-try_none ss b in
    let same = ap (tries_by ds) (others ss b) in
    omega (arith, both, none, same)

-- calls, and then steps that try nothing
tries-before : (cs : List Call) (ss : List Step) (b : Buffer) → tries_by (cs ++ calls_of ss) b ≡ tries_by cs b
tries-before cs ss b =
    let both = tries-append cs (calls_of ss) b in
    let none = others-try_none ss (made_by cs b) in
    omega (arith, both, none)

substitutes-try : (m : OtMap) (f : OpenTypeFace) (run : Run) (b : Buffer)
    → tries_by (substitute_calls m f run) b ≡ tries_by (lookup_calls m f run) (run_steps (glyph_steps run) (recategorize_step run.decisions b))
substitutes-try m f run b =
    let last = step_if (run.decisions.apply_morx && run.decisions.apply_gpos) run.lookups.aat_remove_deleted in
    let looked = lookup_calls m f run ++ (other_call last ∷ []) in
    let c = recategorize_step run.decisions b in
    let d = run_steps (glyph_steps run) c in
    let first : tries_by (substitute_calls m f run) b ≡ 0 + tries_by looked d = ap (λ n. 0 + n) (tries-after (glyph_steps run) looked c) in
    let alone : tries_by looked d ≡ tries_by (lookup_calls m f run) d = tries-before (lookup_calls m f run) (step last ∷ []) d in
    omega (arith, first, alone)

positions-try : (m : OtMap) (f : OpenTypeFace) (run : Run) (b : Buffer)
    → tries_by (position_calls m f run) b ≡ tries_by (place_calls m f run) (spaces_step run.face (run_steps (advance_steps run) b))
positions-try m f run b =
    let marks = marks_step run.unicode run.face run.direction run.script run.decisions in
    let tables = place_calls m f run ++ calls_of (close_steps run) in
    let placing = tables ++ (other_call marks ∷ []) in
    let c = run_steps (advance_steps run) b in
    let d = spaces_step run.face c in
    let first : tries_by (position_calls m f run) b ≡ 0 + tries_by placing d
    = tries-after (advance_steps run) (other_call (spaces_step run.face) ∷ placing) b in
    let without_marks : tries_by placing d ≡ tries_by tables d = tries-before tables (step marks ∷ []) d in
    let alone : tries_by tables d ≡ tries_by (place_calls m f run) d = tries-before (place_calls m f run) (close_steps run) d in
    omega (arith, first, without_marks, alone)

-- a run tries what its stages and its positioning try
pub lookups-try : (m : OtMap) (f : OpenTypeFace) (run : Run) (target : Direction) → run.lookups ≡ opentype_lookups m f → (b : Buffer)
    → tries_by (run_calls m f run target) b
    ≡ tries_by (lookup_calls m f run) (before_lookups run target b) + tries_by (place_calls m f run) (before_placing run target b)
lookups-try m f run target is b =
    let glyphs = calls_of (mask_steps run) ++ substitute_calls m f run in
    let placing = position_calls m f run ++ calls_of (finish_steps run) in
    let c = normalized run.rules (run_steps (prepare_steps run target) b) in
    let d = run_steps (mask_steps run) c in
    let e = run_steps (substitute_pre_steps run) d in
    let first : tries_by (run_calls m f run target) b ≡ 0 + tries_by (glyphs ++ placing) c
    = tries-after (prepare_steps run target) (other_call (normalized run.rules) ∷ (glyphs ++ placing)) b in
    let both : tries_by (glyphs ++ placing) c ≡ tries_by glyphs c + tries_by placing (made_by glyphs c) = tries-append glyphs placing c in
    let masked : tries_by glyphs c ≡ tries_by (substitute_calls m f run) d = tries-after (mask_steps run) (substitute_calls m f run) c in
    let stages_try : tries_by (substitute_calls m f run) d ≡ tries_by (lookup_calls m f run) (before_lookups run target b)
    = substitutes-try m f run d in
    let made : made_by glyphs c ≡ e =
    made-append (calls_of (mask_steps run)) (substitute_calls m f run) c ∙ (ap (made_by (substitute_calls m f run)) (others (mask_steps run) c)
    ∙ substitutes m f run is d) in
    let there : tries_by placing (made_by glyphs c) ≡ tries_by placing e = ap (tries_by placing) made in
    let unfinished : tries_by placing e ≡ tries_by (position_calls m f run) e = tries-before (position_calls m f run) (finish_steps run) e in
    let tables : tries_by (position_calls m f run) e ≡ tries_by (place_calls m f run) (before_placing run target b) = positions-try m f run e in
    omega (arith, first, both, masked, stages_try, there, unfinished, tables)

-- ---- calls that pay

-- what a run does besides its lookups doesn't raise what they may ask for
pub record OthersNeverRaise (run : Run) (target : Direction) : Type 0 where
  pub preparing : EachStep NeverRaises (prepare_steps run target)
  pub normalising : NeverRaises (normalized run.rules)
  pub masks : EachStep NeverRaises (mask_steps run)
  pub categories : NeverRaises (recategorize_step run.decisions)
  pub glyphs : EachStep NeverRaises (glyph_steps run)
  pub pauses : (i : ℕ) → NeverRaises (paused run i)
  pub advances : EachStep NeverRaises (advance_steps run)
  pub spaces : NeverRaises (spaces_step run.face)
  pub early : NeverRaises (zeroed_early run)
  pub late : NeverRaises (zeroed_late run)
  pub closing : EachStep NeverRaises (close_steps run)
  pub marks : NeverRaises (marks_step run.unicode run.face run.direction run.script run.decisions)
  pub finishing : EachStep NeverRaises (finish_steps run)

other-pays : (g : Buffer → Buffer) → NeverRaises g → Pays (other_call g)
other-pays g never b = let less : (g b).max_ops ≤ b.max_ops = never b in omega (arith, less)

pub if-never : (t : Bool) (g : Buffer → Buffer) → NeverRaises g → NeverRaises (step_if t g)
if-never true g never b = never b
if-never false g never b = omega arith

others-pay : (ss : List Step) → EachStep NeverRaises ss → EachPays (calls_of ss)
others-pay [] each = tt
others-pay (s ∷ ss) each = (other-pays s.makes each.0, others-pay ss each.1)

both-pay : (cs ds : List Call) → EachPays cs → EachPays ds → EachPays (cs ++ ds)
both-pay [] ds first later = later
both-pay (c ∷ cs) ds first later = (first.0, both-pay cs ds first.1 later)

stages-pay : (m : OtMap) (f : OpenTypeFace) (run : Run) → ((i : ℕ) → NeverRaises (paused run i)) → (n : ℕ)
    → EachPays (stage_calls m f run n)
stages-pay m f run pauses zero = tt
stages-pay m f run pauses (suc n) =
    both-pay (stage_calls m f run n) (stage_call m f n ∷ other_call (paused run n) ∷ []) (stages-pay m f run pauses n)
    (stage-pays m f n, (other-pays (paused run n) (pauses n), tt))

module _ (m : OtMap) (f : OpenTypeFace) (run : Run) (target : Direction) (is : run.lookups ≡ opentype_lookups m f)
    (never : OthersNeverRaise run target) where
  engine : EachLookup NeverRaises run.lookups
  engine = subst (EachLookup NeverRaises) (sym is) (never-raises m f)

  lookups-pay : EachPays (lookup_calls m f run)
  lookups-pay =
      elim run.decisions.apply_morx as (λ t.
      EachPays (if t then other_call (run.lookups.aat_substitute run.user_features) ∷ [] else stage_calls m f run run.map.stages)) [
        | true ↦ (other-pays (run.lookups.aat_substitute run.user_features) (engine.aat_substitute run.user_features), tt)
        | false ↦ stages-pay m f run never.pauses run.map.stages
      ]

  substitutes-pay : EachPays (substitute_calls m f run)
  substitutes-pay =
      let deleted = step_if (run.decisions.apply_morx && run.decisions.apply_gpos) run.lookups.aat_remove_deleted in
      let last : EachPays (other_call deleted ∷ [])
      = (other-pays deleted (if-never (run.decisions.apply_morx && run.decisions.apply_gpos) run.lookups.aat_remove_deleted engine.aat_remove_deleted), tt) in
      let looked : EachPays (lookup_calls m f run ++ (other_call deleted ∷ []))
      = both-pay (lookup_calls m f run) (other_call deleted ∷ []) lookups-pay last in
      let later : EachPays (calls_of (glyph_steps run) ++ (lookup_calls m f run ++ (other_call deleted ∷ [])))
      = both-pay (calls_of (glyph_steps run)) (lookup_calls m f run ++ (other_call deleted ∷ [])) (others-pay (glyph_steps run) never.glyphs) looked in
      (other-pays (recategorize_step run.decisions) never.categories, later)

  placing-pays : Pays (if run.decisions.apply_gpos then position_call m f
      else other_call (step_if run.decisions.apply_kerx (run.lookups.aat_position run.decisions.kern_mask)))
  placing-pays =
      let kerx = run.lookups.aat_position run.decisions.kern_mask in
      elim run.decisions.apply_gpos as (λ t. Pays (if t then position_call m f else other_call (step_if run.decisions.apply_kerx kerx))) [
        | true ↦ position-pays m f
        | false ↦ other-pays (step_if run.decisions.apply_kerx kerx) (if-never run.decisions.apply_kerx kerx (engine.aat_position run.decisions.kern_mask))
      ]

  places-pay : EachPays (place_calls m f run)
  places-pay =
      let kern = run.lookups.kern run.decisions.kern_mask in
      let track = run.lookups.aat_track run.decisions.trak_mask in (
        other-pays run.lookups.position_start engine.position_start,
        (
          other-pays (zeroed_early run) never.early,
          (
            placing-pays,
            (
              other-pays (step_if run.decisions.apply_kern kern) (if-never run.decisions.apply_kern kern (engine.kern run.decisions.kern_mask)),
              (
                other-pays (step_if run.decisions.apply_trak track) (if-never run.decisions.apply_trak track (engine.aat_track run.decisions.trak_mask)),
                (
                  other-pays (zeroed_late run) never.late,
                  tt,
                ),
              ),
            ),
          ),
        ),
      )

  positions-pay : EachPays (position_calls m f run)
  positions-pay =
      let marks = marks_step run.unicode run.face run.direction run.script run.decisions in
      let last : EachPays (other_call marks ∷ []) = (other-pays marks never.marks, tt) in
      let closed : EachPays (place_calls m f run ++ calls_of (close_steps run))
      = both-pay (place_calls m f run) (calls_of (close_steps run)) places-pay (others-pay (close_steps run) never.closing) in
      let placed : EachPays ((place_calls m f run ++ calls_of (close_steps run)) ++ (other_call marks ∷ []))
      = both-pay (place_calls m f run ++ calls_of (close_steps run)) (other_call marks ∷ []) closed last in
      let rest : EachPays (other_call (spaces_step run.face) ∷ ((place_calls m f run ++ calls_of (close_steps run)) ++ (other_call marks ∷ [])))
      = (other-pays (spaces_step run.face) never.spaces, placed) in
      both-pay (calls_of (advance_steps run))
      (other_call (spaces_step run.face) ∷ ((place_calls m f run ++ calls_of (close_steps run)) ++ (other_call marks ∷ [])))
      (others-pay (advance_steps run) never.advances) rest

  run-pays : EachPays (run_calls m f run target)
  run-pays =
      let masked : EachPays (calls_of (mask_steps run) ++ substitute_calls m f run)
      = both-pay (calls_of (mask_steps run)) (substitute_calls m f run) (others-pay (mask_steps run) never.masks) substitutes-pay in
      let placed : EachPays (position_calls m f run ++ calls_of (finish_steps run))
      = both-pay (position_calls m f run) (calls_of (finish_steps run)) positions-pay (others-pay (finish_steps run) never.finishing) in
      let later : EachPays ((calls_of (mask_steps run) ++ substitute_calls m f run) ++ (position_calls m f run ++ calls_of (finish_steps run)))
      = both-pay (calls_of (mask_steps run) ++ substitute_calls m f run) (position_calls m f run ++ calls_of (finish_steps run)) masked placed in
      let rest : EachPays (other_call (normalized run.rules)
      ∷ ((calls_of (mask_steps run) ++ substitute_calls m f run) ++ (position_calls m f run ++ calls_of (finish_steps run))))
      = (other-pays (normalized run.rules) never.normalising, later) in
      both-pay (calls_of (prepare_steps run target))
      (other_call (normalized run.rules)
      ∷ ((calls_of (mask_steps run) ++ substitute_calls m f run) ++ (position_calls m f run ++ calls_of (finish_steps run))))
      (others-pay (prepare_steps run target) never.preparing) rest

-- what a run tries, and what is left after it, are no more than it begins with
pub run-tries : (m : OtMap) (f : OpenTypeFace) (run : Run) → run.lookups ≡ opentype_lookups m f
    → ((target : Direction) → OthersNeverRaise run target) → TriesWithin m f run
run-tries m f run is never = record {
  tries = λ target text.
      subst (λ (c : Buffer). tries_by (run_calls m f run target) (entered text) + c.max_ops ≤ run_ops (length text.items))
      (calls m f run target is (entered text)) (in-turn (run_calls m f run target) (run-pays m f run target is (never target)) (entered text));
}

-- a run by lookups over a face, if no hook raises what is left
pub no_more : (f : OpenTypeFace) (run : Run)
    → ((m : OtMap) → run.lookups ≡ opentype_lookups m f → HooksNeverRaise run → TriesWithin m f run)
    → NeverRaisesBy opentype_lookups f run → TriesNoMore f run
no_more f run within never = record {
  map = never.map;
  lookups = never.lookups;
  within = λ m is. within m is never.hooks;
}

-- ---- hooks that do nothing

hook-plain : {A : Type 0} (given : Bool) (o : Option A) (x : HookMeaning) (pick : HookMeaning → Buffer → Buffer) → NeverRaises (pick x)
    → NeverRaises (hook_if given (option_map (λ a. x) o) pick)
hook-plain given None x pick less = λ b. omega arith
hook-plain given (Some a) x pick less = if-never given (pick x) less

module _ {A : Type 0} (run : Run) (unicode : UnicodeMeaning) (o : Option A) (is : run.hooks ≡ option_map (λ a. no_hooks unicode) o) where
  hook-never : (given : Bool) (pick : HookMeaning → Buffer → Buffer) → NeverRaises (pick (no_hooks unicode))
      → NeverRaises (hook_if given run.hooks pick)
  hook-never given pick less =
      subst (λ hooks. NeverRaises (hook_if given hooks pick)) (sym is) (hook-plain given o (no_hooks unicode) pick less)

  pause-never : (p : Option ℕ)
      → NeverRaises (option_map_or (λ n. hook_if run.constants.has_pause run.hooks (λ hooks. hooks.pause n)) p (λ b. b))
  pause-never None = λ b. omega arith
  pause-never (Some n) = hook-never run.constants.has_pause (λ hooks. hooks.pause n) (λ b. omega arith)

  pub hooks-never : run.rules.reorder ≡ None → HooksNeverRaise run
  hooks-never none = record {
    preprocess = hook-never run.constants.has_preprocess_text (λ h. h.preprocess) (λ b. omega arith);
    setup_masks = hook-never run.constants.has_setup_masks (λ h. h.setup_masks) (λ b. omega arith);
    pauses = λ i. pause-never (run.map.pause_after i);
    postprocess = hook-never run.constants.has_postprocess_glyphs (λ h. h.postprocess) (λ b. omega arith);
    reorder = λ f given. absurd (let both : None ≡ Some f = sym none ∙ given in cc);
  }
