-- If the hooks do nothing of their own and the lookups preserve clusters and flags, a run's premises hold.
use Rattle.std.proofs.Common.{◌≡◌, ◌⊎◌, inl, inr, ℕ, Bool, true, false, ◌||◌, List, Option, Some, None, refl, ap, sym, subst, ◌∙◌, arith}
use Rattle.std.specs.Option.{option_map}
use Rattle.canonical_form.specs.Equivalent.{ComposesSoundly}
use Rattle.canonical_form.specs.SplitsFall.{SplitsFall}
use Rattle.shape_items.specs.Buffer.{Buffer}
use Rattle.shape_common.specs.Face.{FaceMeaning}
use Rattle.shape_buffer.specs.Guess.{guessed}
use Rattle.shape_items.specs.Items.{Item}
use Rattle.shape_buffer.specs.Preservation.{EachLookup, IsClusterPreserving, IsFlagPreserving, LookupsPreserveClusters, LookupsPreserveFlags}
use Rattle.shape_buffer.specs.Layout.{LookupMeaning, MapMeaning}
use Rattle.shape_buffer.specs.NoLookups.{no_lookups}
use Rattle.shape_common.specs.Unicode.{UnicodeMeaning, LawfulUnicode}
use Rattle.shape_items.proofs.Flags.FlagLemmas.{PreservesFlags-same}
use Rattle.shape_normalize.specs.CanonicalForm.{HasLawfulHooks, TextPremises, HasNoSelector}
use Rattle.shape_normalize.specs.Normalized.{HookPreservesClusters}
use Rattle.shape_items.specs.Prepared.{IsPrepared}
use Rattle.shape_plan.specs.Preservation.{EachHook, EachCall, RunPreservesFlags, has_steps}
use Rattle.shape_plan.specs.Plan.{Plan, hooks_of}
use Rattle.shape_plan.specs.Rules.{Rules, rules_of, used_decompositions, used_compose}
use Rattle.shape_plan.specs.Run.{Run, run_of}
use Rattle.shape_plan.specs.Shaper.{HookMeaning, HookObligations, ShaperConstants}
use Rattle.shape_plan.specs.Shapers.{no_hooks}
use Rattle.shape_plan.proofs.PreservationLemmas.{called}
use Rattle.shape_plan.proofs.MaskLemmas.{preserving-masks_alone}
use Rattle.shape_pipeline.specs.Canonical.{RunPreservesEquivalence}
use Rattle.shape_pipeline.specs.Headline.{prepared_text}
use Rattle.shape_pipeline.specs.Headline.{target_of}
use Rattle.shape_pipeline.specs.Order.{RunPreservesClusters, RunOrdersClusters}
use Rattle.shape_pipeline.specs.Premises.{LeavesBuffers, OrderByHook, OrderInTheEnd, FlagsByHook, HasNoObligations}
use Rattle.shape_pipeline.specs.Shaped.{entered}
use Rattle.shape_pipeline.proofs.RunLemmas.{prepared_text-cases}
use Rattle.shape_normalize.proofs.Hooks.LawfulLemmas.{lawful-unasked, reorder-unasked}
use Rattle.shape_prepare.specs.PreparedPoint.{PreservesPrepared}
use Rattle.shape_buffer.proofs.Steps.PreservationLemmas.{PreservesOrder-same}
use Rattle.shape_prepare.proofs.Preservation.PreparedLemmas.{preparing_prepares}

-- what leaves a buffer as it is preserves clusters and flags
pub clusters-left : IsClusterPreserving (λ b. b)
clusters-left b monotone = PreservesOrder-same b

pub flags-left : IsFlagPreserving (λ b. b)
flags-left b = PreservesFlags-same b

EachLookup-none : (Preserves : (Buffer → Buffer) → Type 0) → Preserves (λ b. b) → EachLookup Preserves no_lookups
EachLookup-none Preserves left = record {
  substitute_start = left;
  stage = λ i. left;
  aat_substitute = λ features. left;
  aat_remove_deleted = left;
  aat_zero_width_deleted = left;
  position_start = left;
  position = left;
  position_finish_advances = left;
  position_finish_offsets = left;
  aat_position = λ mask. left;
  kern = λ mask. left;
  aat_track = λ mask. left;
}

pub clusters-no_lookups : LookupsPreserveClusters no_lookups
clusters-no_lookups = EachLookup-none IsClusterPreserving clusters-left

pub flags-no_lookups : LookupsPreserveFlags no_lookups
flags-no_lookups = EachLookup-none IsFlagPreserving flags-left

EachHook-none : (Preserves : (Buffer → Buffer) → Type 0) → Preserves (λ b. b) → (unicode : UnicodeMeaning) (run : Run)
    → EachHook Preserves run (no_hooks unicode)
EachHook-none Preserves left unicode run = record {
  preprocess = λ given. left;
  setup_masks = λ given. left;
  postprocess = λ given. left;
  pause = λ given staged i n within asked. left;
}

none_given : (preprocess setup_masks postprocess pause : Bool) → (preprocess || setup_masks || postprocess || pause) ≡ false
    → (preprocess ≡ false) × (setup_masks ≡ false) × (postprocess ≡ false) × (pause ≡ false)
none_given false false false false none = (refl, refl, refl, refl)
none_given false false false true none = cc
none_given false false true pause none = cc
none_given false true postprocess pause none = cc
none_given true setup_masks postprocess pause none = cc

EachHook-not_given : (Preserves : (Buffer → Buffer) → Type 0) (run : Run) → has_steps run.constants ≡ false
    → (hooks : HookMeaning) → EachHook Preserves run hooks
EachHook-not_given Preserves run none hooks =
    let each = none_given run.constants.has_preprocess_text run.constants.has_setup_masks run.constants.has_postprocess_glyphs
    run.constants.has_pause none in
    record {
      preprocess = λ given. absurd (let e : true ≡ false = sym given ∙ each.0 in cc);
      setup_masks = λ given. absurd (let e : true ≡ false = sym given ∙ each.1 in cc);
      postprocess = λ given. absurd (let e : true ≡ false = sym given ∙ each.2 in cc);
      pause = λ given. absurd (let e : true ≡ false = sym given ∙ each.3 in cc);
    }

EachHook-left : (Preserves : (Buffer → Buffer) → Type 0) → Preserves (λ b. b) → (run : Run) (hooks : HookMeaning)
    → LeavesBuffers hooks → EachHook Preserves run hooks
EachHook-left Preserves left run hooks leaves = record {
  preprocess = λ given. subst Preserves (sym leaves.preprocess) left;
  setup_masks = λ given. subst Preserves (sym leaves.setup_masks) left;
  postprocess = λ given. subst Preserves (sym leaves.postprocess) left;
  pause = λ given staged i n within asked. subst (λ pause. Preserves (pause n)) (sym leaves.pause) left;
}

-- a hook that is given is one that keeps
given-preserves : {Obligations : Type 0} (given : Bool) → (given ≡ false) ⊎ Obligations → given ≡ true → Obligations
given-preserves given (inl not_given) is = absurd (let e : true ≡ false = sym is ∙ not_given in cc)
given-preserves given (inr preserves) is = preserves

given-order : (run : Run) (hooks : HookMeaning) → HookObligations hooks → OrderByHook run hooks
    → EachHook IsClusterPreserving run hooks
given-order run hooks lawful each = record {
  preprocess = given-preserves run.constants.has_preprocess_text each.preprocess;
  setup_masks = λ given. preserving-masks_alone hooks.setup_masks lawful.masks_alone;
  postprocess = given-preserves run.constants.has_postprocess_glyphs each.postprocess;
  pause = given-preserves run.constants.has_pause each.pause;
}

given-flags : (run : Run) (hooks : HookMeaning) → FlagsByHook run hooks → EachHook IsFlagPreserving run hooks
given-flags run hooks each = record {
  preprocess = given-preserves run.constants.has_preprocess_text each.preprocess;
  setup_masks = given-preserves run.constants.has_setup_masks each.setup_masks;
  postprocess = given-preserves run.constants.has_postprocess_glyphs each.postprocess;
  pause = given-preserves run.constants.has_pause each.pause;
}

-- what holds of the shaper's hooks holds of those that the plan keeps
of_kept : {S : Type 0} (hooks : S → HookMeaning) (Claim : HookMeaning → Type 0) → ((s : S) → Claim (hooks s))
    → (shaper : Option S) (h : HookMeaning) → option_map hooks shaper ≡ Some h → Claim h
of_kept hooks Claim claim None h is = cc
of_kept hooks Claim claim (Some s) h is = let e : hooks s ≡ h = cc in subst Claim e (claim s)

-- decompositions and compositions are Unicode's, whether hooks that do nothing of their own are given or not
splits-none : (unicode : UnicodeMeaning) → LawfulUnicode unicode → (given : Bool)
    → SplitsFall (used_decompositions unicode given (Some (no_hooks unicode)))
splits-none unicode lawful true = lawful.splits_fall
splits-none unicode lawful false = lawful.splits_fall

composes-none : (unicode : UnicodeMeaning) → LawfulUnicode unicode → (splits composes : Bool)
    → ComposesSoundly (used_decompositions unicode splits (Some (no_hooks unicode))) (used_compose unicode composes (Some (no_hooks unicode)))
composes-none unicode lawful true true = lawful.composes_soundly
composes-none unicode lawful true false = lawful.composes_soundly
composes-none unicode lawful false true = lawful.composes_soundly
composes-none unicode lawful false false = lawful.composes_soundly

module _ {S : Type 0} (unicode : UnicodeMeaning) (lawful : LawfulUnicode unicode) (hooks : S → HookMeaning)
    (none : (s : S) → hooks s ≡ no_hooks unicode) where
  splits-kept : (given : Bool) (shaper : Option S) → SplitsFall (used_decompositions unicode given (option_map hooks shaper))
  splits-kept given None = lawful.splits_fall
  splits-kept given (Some s) =
      let P : HookMeaning → Type 0 = λ h. SplitsFall (used_decompositions unicode given (Some h)) in
      subst P (sym (none s)) (splits-none unicode lawful given)

  composes-kept : (splits composes : Bool) (shaper : Option S)
      → ComposesSoundly (used_decompositions unicode splits (option_map hooks shaper))
      (used_compose unicode composes (option_map hooks shaper))
  composes-kept splits composes None = lawful.composes_soundly
  composes-kept splits composes (Some s) =
      let P : HookMeaning → Type 0 = λ h.
      ComposesSoundly (used_decompositions unicode splits (Some h)) (used_compose unicode composes (Some h)) in
      subst P (sym (none s)) (composes-none unicode lawful splits composes)

-- each item's mark and ccc are those of its character as normalising begins, if the shaper's hook leaves them so
pub prepared_text-prepared : (run : Run) (text : Buffer) → LawfulUnicode run.unicode
    → ((hooks : HookMeaning) → run.hooks ≡ Some hooks → run.constants.has_preprocess_text ≡ true
    → PreservesPrepared run.unicode hooks.preprocess)
    → IsPrepared run.unicode (prepared_text run text).items
prepared_text-prepared run text lawful preserves =
    let begun = guessed run.unicode text in
    prepared_text-cases (λ b. IsPrepared run.unicode b.items) run (target_of run text) begun begun.items
    (λ none. subst (λ (items : List Item). IsPrepared run.unicode items) (sym none) (λ k d within. absurd (omega (arith, within))))
    (preparing_prepares run (target_of run text) (entered begun) lawful preserves)

-- a hook that reorders marks preserves clusters if it isn't given
no_reorder-preserves : (rules : Rules) → rules.reorder ≡ None → HookPreservesClusters rules
no_reorder-preserves rules no_reorder reorder is = absurd (let e : None ≡ Some reorder = sym no_reorder ∙ is in cc)

module _ {S P D F : Type 0} (unicode : UnicodeMeaning) (masks : P → MapMeaning) (lookups : P → F → LookupMeaning)
    (constants : ShaperConstants)
    (hooks : S → Plan S P D → F → HookMeaning) (faces : F → FaceMeaning) (plan : Plan S P D) (face : F) where
  -- the run by this plan and face
  abbrev this_run : Run
  this_run = run_of unicode masks lookups constants hooks faces plan face

  -- no hook is given, or each leaves buffers as they are
  abbrev LeavesAll : Type 0
  LeavesAll = (has_steps constants ≡ false) ⊎ ((s : S) → LeavesBuffers (hooks s plan face))

  calls-not_given : (Preserves : (Buffer → Buffer) → Type 0) → Preserves (λ b. b) → LeavesAll → EachLookup Preserves (lookups plan.ot_map face)
      → EachCall Preserves this_run
  calls-not_given Preserves left (inl none) keep = record {
    lookups = called Preserves this_run keep;
    hooks = λ h is. EachHook-not_given Preserves this_run none h;
  }
  calls-not_given Preserves left (inr leaves) keep = record {
    lookups = called Preserves this_run keep;
    hooks = of_kept (λ s. hooks s plan face) (EachHook Preserves this_run)
        (λ s. EachHook-left Preserves left this_run (hooks s plan face) (leaves s)) plan.shaper;
  }

  -- what holds of each hook that is given, and of each lookup, holds of each call
  calls-by_hook : (Preserves : (Buffer → Buffer) → Type 0) → ((s : S) → EachHook Preserves this_run (hooks s plan face))
      → EachLookup Preserves (lookups plan.ot_map face) → EachCall Preserves this_run
  calls-by_hook Preserves each keep = record {
    lookups = called Preserves this_run keep;
    hooks = of_kept (λ s. hooks s plan face) (EachHook Preserves this_run) each plan.shaper;
  }

  pub flags-by_hook : ((s : S) → FlagsByHook this_run (hooks s plan face)) → LookupsPreserveFlags (lookups plan.ot_map face)
      → RunPreservesFlags this_run
  flags-by_hook each = calls-by_hook IsFlagPreserving (λ s. given-flags this_run (hooks s plan face) (each s))

  pub clusters-by_hook : ((s : S) → HookObligations (hooks s plan face)) → ((s : S) → OrderByHook this_run (hooks s plan face))
      → LookupsPreserveClusters (lookups plan.ot_map face) → HookPreservesClusters (rules_of unicode constants hooks faces plan face)
      → RunPreservesClusters this_run
  clusters-by_hook lawful each keep reordering = record {
    calls = calls-by_hook IsClusterPreserving (λ s. given-order this_run (hooks s plan face) (lawful s) (each s)) keep;
    reordering = reordering;
  }

  -- the run ends in order, if the plan uses the shaper; if it doesn't there is no hook to ask
  pub clusters-in_the_end : ((s : S) → HookObligations (hooks s plan face)) → ((s : S) → OrderInTheEnd this_run (hooks s plan face))
      → LookupsPreserveClusters (lookups plan.ot_map face) → HookPreservesClusters (rules_of unicode constants hooks faces plan face)
      → RunOrdersClusters this_run
  clusters-in_the_end lawful each keep reordering = by_shaper plan.shaper refl
    where
      by_shaper : (shaper : Option S) → plan.shaper ≡ shaper → RunOrdersClusters this_run
      by_shaper None is = inl (record {
        calls = record {
          lookups = called IsClusterPreserving this_run keep;
          hooks = λ h some. absurd (let e : None ≡ Some h = ap (option_map (λ s. hooks s plan face)) (sym is) ∙ some in cc);
        };
        reordering = reordering;
      })
      by_shaper (Some s) is =
          let order = each s in
          inr (record {
            lookups = called IsClusterPreserving this_run keep;
            hooks = hooks s plan face;
            used = ap (option_map (λ s. hooks s plan face)) is;
            preprocess = given-preserves constants.has_preprocess_text order.preprocess;
            setup_masks = λ given. preserving-masks_alone (hooks s plan face).setup_masks (lawful s).masks_alone;
            pause = given-preserves constants.has_pause order.pause;
            given = order.given;
            postprocess = order.postprocess;
            reordering = reordering;
          })

  pub equivalence-by_hook : LawfulUnicode unicode → constants.has_decompose ≡ false → constants.has_compose ≡ false
      → constants.has_reorder_marks ≡ false
      → (constants.has_preprocess_text ≡ false) ⊎ ((s : S) → PreservesPrepared unicode (hooks s plan face).preprocess)
      → RunPreservesEquivalence this_run
  equivalence-by_hook lawful no_split no_compose no_reorder preprocess = record {
    lawful_hooks = lawful-unasked unicode constants hooks faces plan face lawful no_split no_compose;
    no_reordering = reorder-unasked unicode constants hooks faces plan face no_reorder;
    preprocess = λ h is given. of_kept (λ s. hooks s plan face) (λ h. PreservesPrepared unicode h.preprocess)
        (given-preserves constants.has_preprocess_text preprocess given) plan.shaper h is;
  }

  pub flags-not_given : LeavesAll → LookupsPreserveFlags (lookups plan.ot_map face)
      → RunPreservesFlags this_run
  flags-not_given = calls-not_given IsFlagPreserving flags-left

  pub clusters-not_given : LeavesAll → LookupsPreserveClusters (lookups plan.ot_map face)
      → HookPreservesClusters (rules_of unicode constants hooks faces plan face)
      → RunPreservesClusters this_run
  clusters-not_given not_given keep reordering = record {
    calls = calls-not_given IsClusterPreserving clusters-left not_given keep;
    reordering = reordering;
  }

  module _ (lawful : LawfulUnicode unicode) (no_reorder : constants.has_reorder_marks ≡ false)
      (none : (s : S) → hooks s plan face ≡ no_hooks unicode) where
    calls-none : (Preserves : (Buffer → Buffer) → Type 0) → Preserves (λ b. b) → EachLookup Preserves (lookups plan.ot_map face)
        → EachCall Preserves this_run
    calls-none Preserves left keep = record {
      lookups = called Preserves this_run keep;
      hooks = of_kept (λ s. hooks s plan face) (EachHook Preserves this_run)
          (λ s. subst (EachHook Preserves this_run) (sym (none s)) (EachHook-none Preserves left unicode this_run)) plan.shaper;
    }

    lawful-none : HasLawfulHooks (rules_of unicode constants hooks faces plan face)
    lawful-none = record {
      splits = splits-kept unicode lawful (λ s. hooks s plan face) none constants.has_decompose plan.shaper;
      composes = λ recomposes. composes-kept unicode lawful
          (λ s. hooks s plan face) none constants.has_decompose constants.has_compose plan.shaper;
    }

    preprocess-none : (h : HookMeaning) → hooks_of hooks plan face ≡ Some h → constants.has_preprocess_text ≡ true
        → PreservesPrepared unicode h.preprocess
    preprocess-none h is given =
        of_kept (λ s. hooks s plan face) (λ h. PreservesPrepared unicode h.preprocess)
        (λ s. subst (λ (h : HookMeaning). PreservesPrepared unicode h.preprocess) (sym (none s)) (λ b all. all)) plan.shaper h is

    prepared-none : (text : Buffer)
        → IsPrepared unicode (prepared_text this_run text).items
    prepared-none text =
        let run = run_of unicode masks lookups constants hooks faces plan face in
        prepared_text-prepared run text lawful preprocess-none

    pub has_no_obligations : LookupsPreserveClusters (lookups plan.ot_map face) → LookupsPreserveFlags (lookups plan.ot_map face)
        → HasNoObligations this_run
    has_no_obligations clusters flags =
        let unordered = reorder-unasked unicode constants hooks faces plan face no_reorder in
        let asked : (text : List ℕ) → HasNoSelector (rules_of unicode constants hooks faces plan face) text
        → TextPremises (rules_of unicode constants hooks faces plan face) text = λ text plain. record { lawful_hooks = lawful-none; no_selector = plain; no_reordering = unordered } in
        record {
          clusters = record {
            calls = calls-none IsClusterPreserving clusters-left clusters;
            reordering = no_reorder-preserves (rules_of unicode constants hooks faces plan face) unordered;
          };
          flags = calls-none IsFlagPreserving flags-left flags;
          canonical = record { lawful_hooks = lawful-none; no_reordering = unordered; preprocess = preprocess-none };
          hooks = lawful-none;
          no_reordering = unordered;
          prepared = prepared-none;
          equivalence = λ text plain. record { text = asked _ plain; prepared = prepared-none text };
          canonical_form = λ text plain canonical. record { equivalence = record { text = asked _ plain; prepared = prepared-none text }; canonical = canonical };
          plain = λ text plain. record { prepared = prepared-none text; no_selector = plain; no_reordering = unordered };
        }
