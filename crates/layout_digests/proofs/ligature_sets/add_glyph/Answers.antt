use Rattle.std.proofs.Common.{◌≡◌, ◌+◌, ◌++◌, ◌∷◌, [], ℕ, List, Option, Some, IfSome, length, sym, ap, subst, ◌∙◌}
use Rattle.layout_matching.specs.LigatureSets.{IsSetFor}
use Rattle.layout_matching.specs.declared.ligature_sets.LigatureSet.{LigatureSet}
use Rattle.layout_digests.proofs.LigatureSetLemmas.{HeldIn, held_none, held_some}
use Rattle.layout_digests.proofs.ligature_sets.add_glyph.Goals as goal

pub returns-in_default-clause-held : goal.returns-in_default-clause-held
returns-in_default-clause-held c = λ t place below held new.
    let stored = c.args.stored.now in
    subst (λ (ns : List (Option ℕ)). HeldIn t place stored.first ns stored.sets.items) (sym c.in_ok-push.ensures.items)
    (held_none t place stored.first stored.numbers.items stored.sets.items held)

pub returns-clause-held : goal.returns-clause-held
returns-clause-held c = λ t place below held new.
    let stored = c.args.stored.now in
    let set = c.in-Some.set in
    let ns = stored.numbers.items in
    let ss = stored.sets.items in
    let is : IsSetFor t place (stored.first + length ns) set =
    subst (λ (o : Option LigatureSet). IfSome o (IsSetFor t place (stored.first + length ns))) c.in-Some.is new in
    let numbered : c.push-2.new.self.items ≡ ns ++ Some (length ss) ∷ [] =
    c.in_ok-push-2.ensures.items ∙ ap (λ n. ns ++ Some n ∷ []) (c.len-number.ensures ∙ stored.sets.ok.0) in
    subst (λ (xs : List (Option ℕ)). HeldIn t place stored.first xs c.push-3.new.self.items) (sym numbered)
    (subst (λ (xs : List LigatureSet). HeldIn t place stored.first (ns ++ Some (length ss) ∷ []) xs) (sym c.in_ok-push-3.ensures.items)
    (held_some ns ss set below t place stored.first held is))
