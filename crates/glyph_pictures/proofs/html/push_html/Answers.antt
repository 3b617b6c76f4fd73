use Rattle.std.proofs.Common.{arith, ◌≡◌}
use Rattle.std.proofs.lemmas.Grind.{common_steps}
use Rattle.std.proofs.lemmas.Iterator.{YieldsList-from_chars}
use Rattle.std.proofs.lemmas.Iterator.Consumers.{YieldsList-end}
use Rattle.std.specs.Str.{chars}
use Rattle.glyph_pictures.proofs.HtmlLemmas.{html_step}
use Rattle.glyph_pictures.proofs.html.push_html.Goals as goal

pub loop-c-preserved : goal.loop-c-preserved
loop-c-preserved c = html_step _ _ _ c.loop-c.yielded c.in-Some.c c.loop-c.invariant c.in_ok-push_char.ensures

pub returns : goal.returns
returns c =
    let t = YieldsList-end (YieldsList-from_chars c.args.text.now c.utf8.text cc) c.loop-c.yielded _ c.loop-c.yielded_by _ _ c.in-None.is c.next.ensures.steps in
    let all : c.loop-c.yielded ≡ chars c.args.text.now = grind (arith, common_steps, t.0) in
    rw all at c.loop-c.invariant
