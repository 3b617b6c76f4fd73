-- A cluster of the script of the text before it.
use Rattle.std.proofs.Common.{◌≡◌, true, ap, eqb-true, sym, ◌∙◌, inl, inr}
use Rattle.std.proofs.lemmas.Bool.{cases_Bool, cond-true, cond-false}
use Rattle.ucd_script.specs.Script.{script_eq, script_from_number, script_number}
use Rattle.ucd_script.proofs.ScriptLemmas.{script_from_number-script_number}
use Rattle.ucd_script.specs.declared.Script.{Script}
use Rattle.text_items.specs.Extensions.{is_listed}
use Rattle.text_items.specs.Scripts.{is_explicit, settled}
use Rattle.text_items.specs.declared.clusters.Cluster.{Cluster}

same_script : (s other : Script) → script_eq s other ≡ true → s ≡ other
same_script s other same =
    sym (script_from_number-script_number s) ∙ ap script_from_number (eqb-true (script_number s) (script_number other) same)
    ∙ script_from_number-script_number other

pub settled_same : (cluster : Cluster) (current : Script) → is_explicit cluster.script ≡ true → script_eq cluster.script current ≡ true → current ≡ settled cluster current
settled_same cluster current on same = elim (cases_Bool (is_listed current cluster.first)) [
  | inl listed ↦ sym (cond-true (is_listed current cluster.first) _ _ listed)
  | inr other ↦ sym (cond-false (is_listed current cluster.first) _ _ other ∙ cond-true (is_explicit cluster.script) _ _ on ∙ same_script cluster.script current same)
]
