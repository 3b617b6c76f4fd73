use Rattle.std.proofs.Common.{◌≡◌, false, ap, inl, inr, of_z, w32, arith}
use Rattle.std.proofs.lemmas.Bool.{cases_Bool}
use Rattle.std.proofs.lemmas.Bool.Decides.{Decides-int_eq}
use Rattle.std.specs.Ordering.{int_eq}
use Rattle.shape_common.proofs.WrappingLemmas.{kept_bits}
use Rattle.shape_fallback.specs.MarkState.{at_component, component_of}
use Rattle.shape_fallback.proofs.ot_shape_fallback.mark_state.at_component.Goals as goal

pub returns : goal.returns
unfolding at_component
returns c =
    let found = c.mark_component-component.result in
    let another : int_eq found c.args.state.now.component ≡ false = elim (cases_Bool (int_eq found c.args.state.now.component)) [
      | inl same ↦ absurd (c.if-component-state.false (ap (of_z w32) ((Decides-int_eq found c.args.state.now.component).0 same)))
      | inr another ↦ another
    ] in
    let test : int_eq (component_of c.args.base.now c.args.info.now) c.args.state.now.component ≡ false = cc in
    rw test (grind (arith, kept_bits))
