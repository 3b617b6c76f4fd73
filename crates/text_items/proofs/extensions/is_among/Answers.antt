use Rattle.std.proofs.Common.{◌==◌, ap, ◌∙◌}
use Rattle.std.specs.List.{list_any}
use Rattle.ucd_script.specs.Script.{script_number}
use Rattle.ucd_script.specs.ScriptExtensions.{listed_scripts}
use Rattle.text_items.proofs.ExtensionLemmas.{list_any-numbers}
use Rattle.text_items.proofs.extensions.is_among.Goals as goal

pub returns : goal.returns
returns c =
    let number = script_number c.args.script in
    c.has_number.ensures ∙ ap (λ k. list_any (λ n. n == k) c.args.listed.now) c.number.ensures
    ∙ ap (list_any (λ n. n == number)) c.requires
    ∙ list_any-numbers number (listed_scripts c.args.c)
