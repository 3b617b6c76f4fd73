-- a lookup of ligatures at a place of a walk: its ligature is sought once
use Rattle.std.proofs.Common.{◌≡◌, ℕ, ◌-◌, ◌<◌, true, false, Option, Some, None, length, nat_lt, refl, sym, ap, ◌∙◌, arith, if◌then◌else◌}
use Rattle.std.proofs.lemmas.Bool.Decides.{nat_tests}
use Rattle.std.specs.Option.{option_map, option_map_or}
use Rattle.shape_items.specs.Buffer.{Buffer}
use Rattle.shape_buffer.specs.Outcome.{IsWithinLimit}
use Rattle.layout_tables.specs.Lookups.{lookup_type_of}
use Rattle.layout_matching.specs.Found.{is_context}
use Rattle.layout_matching.specs.Work.{lookup_charged, subtables_charged}
use Rattle.layout_matching.specs.declared.lookup.Lookup.{Lookup}
use Rattle.layout_substitution.specs.Applied.{Applied, unapplied}
use Rattle.layout_substitution.specs.Edits.{asks_for_concat, is_inside, is_past}
use Rattle.layout_substitution.specs.Kinds.{lookup_applied}
use Rattle.layout_substitution.specs.Ligatures.{ligature_made}
use Rattle.layout_substitution.specs.Sought.{first_ligature}
use Rattle.layout_substitution.specs.declared.apply.Spot.{Spot}
use Rattle.layout_substitution.specs.declared.ligature_sought.SoughtLigature.{SoughtLigature}
use Rattle.layout_substitution.proofs.KindLemmas.{past_is_false}
use Rattle.layout_substitution.proofs.SoughtLemmas.{ligatures_alone}
use Rattle.layout_context.specs.Nested.{Attempt, attempt_by, place_attempt, tried_marked, first_rule_applied, nested_applied}
use Rattle.layout_context.proofs.AttemptLemmas.{place_plain}
use Rattle.layout_context.proofs.NestedLemmas.{nested_level}

-- its subtables are charged for, whatever the item
charged-alone : (l : Lookup) (b : Buffer) (at left : ℕ) → l.positioning ≡ false → lookup_type_of l.table.now l.place ≡ 4
    → lookup_charged l b.items at left ≡ subtables_charged l b.items at left
charged-alone l b at left gsub type = rw gsub (rw type refl)

abbrev pub once : Lookup → Spot → Buffer → SoughtLigature → Attempt
once l spot b s = let made = option_map_or (ligature_made l (record spot { left = s.left }) b) s.found (unapplied b) in
    record { buffer = made.buffer; tried = Some (record { left = s.left; next = made.next }) }

pub once_made : (level : ℕ) (l : Lookup) (spot : Spot) (b : Buffer) (o : Option SoughtLigature) → 0 < level
    → lookup_type_of l.table.now l.place ≡ 4 → l.positioning ≡ false → asks_for_concat b ≡ false → IsWithinLimit b
    → is_context l ≡ false → spot.at < length b.items
    → o ≡ option_map (λ rest. record { left = rest; found = first_ligature l b spot.at }) (subtables_charged l b.items spot.at spot.left)
    → place_attempt level l spot b ≡ option_map_or (once l spot b) o (record { buffer = b; tried = None })
once_made level l spot b o some type gsub unasked within plain inside is =
    place_plain level l spot b (subtables_charged l b.items spot.at spot.left) plain (charged-alone l b spot.at spot.left gsub type)
    ∙ by_charge (subtables_charged l b.items spot.at spot.left) is
  where
    there_is : is_inside spot.at b ≡ true
    there_is = grind (arith, nat_tests, inside)

    fits : is_past b ≡ false
    fits = past_is_false b within

    made : (rest : ℕ) → nested_applied level l (record spot { left = rest }) b
        ≡ option_map_or (ligature_made l (record spot { left = rest }) b) (first_ligature l b spot.at) (unapplied b)
    made rest =
        let next = nested_applied (level - 1) in
        let paid : Spot = record spot { left = rest } in
        nested_level level l paid b some fits there_is
        ∙ ap (λ t. if t then first_rule_applied next l paid (tried_marked l paid b) else lookup_applied l paid b) plain
        ∙ ligatures_alone l paid b type fits unasked

    by_charge : (c : Option ℕ) → o ≡ option_map (λ rest. record { left = rest; found = first_ligature l b spot.at }) c
        → attempt_by level l spot b c ≡ option_map_or (once l spot b) o (record { buffer = b; tried = None })
    by_charge None e = ap (λ p. option_map_or (once l spot b) p (record { buffer = b; tried = None })) (sym e)
    by_charge (Some rest) e =
        ap (λ (a : Applied). record { buffer = a.buffer; tried = Some (record { left = rest; next = a.next }) }) (made rest)
        ∙ ap (λ p. option_map_or (once l spot b) p (record { buffer = b; tried = None })) (sym e)
