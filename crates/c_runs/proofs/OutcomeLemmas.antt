-- What a call that shapes says, and one that does nothing.
use Rattle.std.proofs.Common.{◌≡◌, ◌∙◌, ℕ, ◌-◌, ◌⊎◌, true, List, [], length, get_or, nat_lt, inl, inr, refl, ap, sym, arith}
use Rattle.shape_items.specs.Buffer.{Buffer}
use Rattle.shape_plan.specs.Run.{Run}
use Rattle.c_runs.specs.Glyphs.{glyphs_of_run}
use Rattle.c_runs.specs.Numbers.{code_of}
use Rattle.c_runs.specs.Outcomes.{IsStopped, Serves, Stops}
use Rattle.c_runs.specs.Texts.{Units}
use Rattle.c_runs.proofs.RunLemmas.{done-none}
use Rattle.c_runs.specs.declared.plain.luthgarn_glyph.{luthgarn_glyph}
use Rattle.c_runs.specs.declared.plain.luthgarn_outcome.{luthgarn_outcome}
use Rattle.c_runs.specs.declared.plain.luthgarn_run.{luthgarn_run}
use Rattle.c_runs.specs.declared.refusal.Refusal.{Refusal}
use Rattle.c_runs.specs.declared.refusal.Refusal.TheVariants as why

no_run : luthgarn_run
no_run = record { before = 0; start = 0; end = 0; after = 0; direction = 0; script = 0; flags = 0; level = 0; language = []; glyphs = 0 }

pub not-zero : (n : ℕ) → true ≡ nat_lt 0 n → n ≡ 0 → ⊥
not-zero n is zero = absurd (let e : true ≡ nat_lt 0 0 = is ∙ ap (nat_lt 0) zero in cc)

module _ (runs : Buffer → Run) (text : Units) where
  -- a reason's number is neither 0 nor that of no font
  reason-code : (run : luthgarn_run) (room needed : ℕ) (e : Refusal) → IsStopped runs text run room needed e
      → (code_of e ≡ 3 → ⊥) × (code_of e ≡ 0 → ⊥)
  reason-code run room needed why.Memory is = (λ e. omega (arith, e), λ e. omega (arith, e))
  reason-code run room needed why.Length is = (λ e. omega (arith, e), λ e. omega (arith, e))
  reason-code run room needed why.Font is = absurd is
  reason-code run room needed why.Text is = (λ e. omega (arith, e), λ e. omega (arith, e))
  reason-code run room needed why.Run is = (λ e. omega (arith, e), λ e. omega (arith, e))
  reason-code run room needed why.Room is = (λ e. omega (arith, e), λ e. omega (arith, e))

  module _ (old new : List luthgarn_run) (room written : List luthgarn_glyph) (outcome : luthgarn_outcome) where
    end-code : ((outcome.code ≡ 0) × (outcome.runs ≡ length old)) ⊎ Stops runs text old (length room) outcome
        → (outcome.code ≡ 3 → ⊥) × (outcome.code ≡ 0 → outcome.runs ≡ length old)
    end-code (inl (zero, all)) = (λ e. omega (arith, e, zero), λ _. all)
    end-code (inr stops) =
        let codes = reason-code (get_or old outcome.runs no_run) (length room - outcome.glyphs) outcome.needed stops.refusal (stops.reason no_run) in
        (λ e. codes.0 (sym stops.code ∙ e), λ e. absurd (codes.1 (sym stops.code ∙ e)))

    -- a call with a font
    pub serves-code : Serves runs text old new room written outcome
        → (outcome.code ≡ 3 → ⊥) × (outcome.code ≡ 0 → outcome.runs ≡ length old)
    serves-code serves = end-code serves.end

    -- memory was refused before the first run
    pub serves-none : new ≡ old → written ≡ room → outcome.code ≡ 1 → outcome.runs ≡ 0 → outcome.glyphs ≡ 0
        → Serves runs text old new room written outcome
    serves-none same blank code none zero = record {
      done = rw (same, blank, none, zero) (done-none (glyphs_of_run runs text) old room);
      placed = rw none (λ k d lt. absurd (omega (arith, lt)));
      text_is = rw none (λ k d lt. absurd (omega (arith, lt)));
      within = (omega arith, omega arith);
      end = inr (record { refusal = why.Memory; code = code; some = λ other. absurd (other refl); reason = λ d. tt });
    }
