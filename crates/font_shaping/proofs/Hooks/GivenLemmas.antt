-- where no hook of a shaper raises what lookups may ask for, no hook of its runs does
use Rattle.std.proofs.Common.{◌≡◌, ℕ, ◌≤◌, Bool, true, false, Option, None, Some, refl, sym, ap, subst, ◌∙◌}
use Rattle.std.specs.Option.{option_map, option_map_or}
use Rattle.shape_items.specs.Buffer.{Buffer}
use Rattle.shape_plan.specs.Rules.{used_reorder}
use Rattle.shape_plan.specs.Run.{Run, hook_if}
use Rattle.shape_plan.specs.Shaper.{ChangesMasksAlone, HookMeaning}
use Rattle.opentype_layout.specs.Tries.{NeverRaises}
use Rattle.font_shaping.proofs.RunTriesLemmas.{if-never}
use Rattle.font_shaping.proofs.SameWorkLemmas.{Same, same-less}
use Rattle.font_shaping.specs.RunTries.{HooksNeverRaise, NoHookRaises}

-- a hook that changes masks alone leaves it as it is
pub same-alone : (b c : Buffer) → ChangesMasksAlone b c → Same b c
same-alone b c alone = ap (λ (d : Buffer). d.max_ops) alone.rest

pub unchanged : NeverRaises (λ b. b)
unchanged b = same-less b b refl

abbrev Used : Option HookMeaning → Type 0
Used hooks = (h : HookMeaning) → hooks ≡ Some h → NoHookRaises h

each-used : {A : Type 0} (f : A → HookMeaning) → ((a : A) → NoHookRaises (f a)) → (o : Option A) → Used (option_map f o)
each-used f each None h is = absurd (let none : None ≡ Some h = is in cc)
each-used f each (Some a) h is =
    let given : Some (f a) ≡ Some h = is in
    let same : f a ≡ h = cc in
    subst NoHookRaises same (each a)

given-never : (given : Bool) (hooks : Option HookMeaning) → Used hooks → (pick : HookMeaning → Buffer → Buffer)
    → ((h : HookMeaning) → NoHookRaises h → NeverRaises (pick h)) → NeverRaises (hook_if given hooks pick)
given-never given None each pick less = unchanged
given-never given (Some h) each pick less = if-never given (pick h) (less h (each h refl))

reorder-less : (given : Bool) (hooks : Option HookMeaning) → Used hooks → (f : Buffer → ℕ → ℕ → Buffer)
    → used_reorder given hooks ≡ Some f → (b : Buffer) (start end : ℕ) → (f b start end).max_ops ≤ b.max_ops
reorder-less false hooks each f is b start end = absurd (let none : None ≡ Some f = is in cc)
reorder-less true None each f is b start end = absurd (let none : None ≡ Some f = is in cc)
reorder-less true (Some h) each f is b start end =
    let given : Some h.reorder ≡ Some f = is in
    let same : h.reorder ≡ f = cc in
    subst (λ (g : Buffer → ℕ → ℕ → Buffer). (g b start end).max_ops ≤ b.max_ops) same ((each h refl).reorder b start end)

pause-never : (run : Run) → Used run.hooks → (p : Option ℕ)
    → NeverRaises (option_map_or (λ n. hook_if run.constants.has_pause run.hooks (λ hooks. hooks.pause n)) p (λ b. b))
pause-never run each None = unchanged
pause-never run each (Some n) = given-never run.constants.has_pause run.hooks each (λ hooks. hooks.pause n) (λ h less. less.pause n)

run-never : (run : Run) → Used run.hooks → run.rules.reorder ≡ used_reorder run.constants.has_reorder_marks run.hooks
    → HooksNeverRaise run
run-never run each reorders = record {
  preprocess = given-never run.constants.has_preprocess_text run.hooks each (λ h. h.preprocess) (λ h less. less.preprocess);
  setup_masks = given-never run.constants.has_setup_masks run.hooks each (λ h. h.setup_masks) (λ h less. less.setup_masks);
  pauses = λ i. pause-never run each (run.map.pause_after i);
  postprocess = given-never run.constants.has_postprocess_glyphs run.hooks each (λ h. h.postprocess) (λ h less. less.postprocess);
  reorder = λ f given. reorder-less run.constants.has_reorder_marks run.hooks each f (sym reorders ∙ given);
}

-- a run by a shaper, if its plan uses it
pub shaper-never : {A : Type 0} (run : Run) (f : A → HookMeaning) (o : Option A) → run.hooks ≡ option_map f o
    → run.rules.reorder ≡ used_reorder run.constants.has_reorder_marks run.hooks → ((a : A) → NoHookRaises (f a)) → HooksNeverRaise run
shaper-never run f o is reorders each = run-never run (subst Used (sym is) (each-used f each o)) reorders
