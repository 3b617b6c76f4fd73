-- The rows of what a run asks of its lookups.
use Rattle.std.proofs.Common.{◌≡◌, nat_lt, Bool, true, false, [], ◌∷◌, length, refl, ap, arith}
use Rattle.std.proofs.lemmas.Bool.Decides.{nat_tests}
use Rattle.shape_items.specs.Buffer.{Buffer, new_buffer}
use Rattle.shape_items.specs.Items.{new_item}
use Rattle.test_fixtures.specs.Worked.Premises.{kept_if, LeavesTexts, PremisesMet, PremisesMissed, WorkedPremises}

left : LeavesTexts (λ b. b)
left b = refl

-- a step that isn't due has no obligations
not_due : {A : Type 0} → false ≡ true → A
not_due e = absurd (cc)

due : {A : Type 0} → true ≡ false → A
due e = absurd (cc)

kept_where : (test : Bool) → test ≡ true → LeavesTexts (kept_if test)
kept_where true holds b = refl
kept_where false holds b = absurd (cc)

premises_met : PremisesMet
premises_met = record {
  bare = λ run. record {
    substitute_start = left;
    stage = λ _ i below. absurd (omega arith);
    aat_substitute = λ e. not_due e;
    aat_remove_deleted = λ e. not_due e;
    aat_zero_width_deleted = λ e. not_due e;
    position_start = left;
    position = λ e. not_due e;
    position_finish_advances = left;
    position_finish_offsets = left;
    aat_position = λ _ e. not_due e;
    kern = λ e. not_due e;
    aat_track = λ e. not_due e;
  };
  two_stages = λ run. record {
    substitute_start = left;
    stage = λ _ i below. kept_where (nat_lt i 2) (grind (arith, nat_tests));
    aat_substitute = λ e. not_due e;
    aat_remove_deleted = λ e. not_due e;
    aat_zero_width_deleted = λ e. not_due e;
    position_start = left;
    position = λ e. not_due e;
    position_finish_advances = left;
    position_finish_offsets = left;
    aat_position = λ _ e. not_due e;
    kern = λ e. not_due e;
    aat_track = λ e. not_due e;
  };
  morx = λ run. record {
    substitute_start = left;
    stage = λ e i below. due e;
    aat_substitute = λ _. left;
    aat_remove_deleted = λ _. left;
    aat_zero_width_deleted = λ _. left;
    position_start = left;
    position = λ e. not_due e;
    position_finish_advances = left;
    position_finish_offsets = left;
    aat_position = λ _ e. not_due e;
    kern = λ e. not_due e;
    aat_track = λ e. not_due e;
  };
  gpos = λ run. record {
    substitute_start = left;
    stage = λ _ i below. absurd (omega arith);
    aat_substitute = λ e. not_due e;
    aat_remove_deleted = λ e. not_due e;
    aat_zero_width_deleted = λ e. not_due e;
    position_start = left;
    position = λ _. left;
    position_finish_advances = left;
    position_finish_offsets = left;
    aat_position = λ e _. due e;
    kern = λ e. not_due e;
    aat_track = λ e. not_due e;
  };
  kerx = λ run. record {
    substitute_start = left;
    stage = λ _ i below. absurd (omega arith);
    aat_substitute = λ e. not_due e;
    aat_remove_deleted = λ e. not_due e;
    aat_zero_width_deleted = λ e. not_due e;
    position_start = left;
    position = λ e. not_due e;
    position_finish_advances = left;
    position_finish_offsets = left;
    aat_position = λ _ _. left;
    kern = λ e. not_due e;
    aat_track = λ e. not_due e;
  };
  kern = λ run. record {
    substitute_start = left;
    stage = λ _ i below. absurd (omega arith);
    aat_substitute = λ e. not_due e;
    aat_remove_deleted = λ e. not_due e;
    aat_zero_width_deleted = λ e. not_due e;
    position_start = left;
    position = λ e. not_due e;
    position_finish_advances = left;
    position_finish_offsets = left;
    aat_position = λ _ e. not_due e;
    kern = λ _. left;
    aat_track = λ e. not_due e;
  };
  trak = λ run. record {
    substitute_start = left;
    stage = λ _ i below. absurd (omega arith);
    aat_substitute = λ e. not_due e;
    aat_remove_deleted = λ e. not_due e;
    aat_zero_width_deleted = λ e. not_due e;
    position_start = left;
    position = λ e. not_due e;
    position_finish_advances = left;
    position_finish_offsets = left;
    aat_position = λ _ e. not_due e;
    kern = λ e. not_due e;
    aat_track = λ _. left;
  };
}

-- what loses a text of one item doesn't leave every text as it is
no_loss : LeavesTexts (kept_if false) → ⊥
no_loss leaves =
    let some : Buffer = record new_buffer { items = new_item 0x61 0 ∷ [] } in
    let no : 0 ≡ 1 = ap (λ (b : Buffer). length b.items) (leaves some) in
    omega (arith, no)

premises_missed : PremisesMissed
premises_missed = record {
  third_stage = λ run each. no_loss (each.stage refl 2 (omega arith));
  stages_for_morx = λ run each. no_loss (each.aat_substitute refl);
  morx_for_stages = λ run each. no_loss (each.stage refl 0 (omega arith));
  gpos_unmet = λ run each. no_loss (each.position refl);
  kerx_unmet = λ run each. no_loss (each.aat_position refl refl);
  kern_unmet = λ run each. no_loss (each.kern refl);
  trak_unmet = λ run each. no_loss (each.aat_track refl);
}

pub worked_premises : WorkedPremises
worked_premises = record { met = premises_met; missed = premises_missed }
