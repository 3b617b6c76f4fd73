use Rattle.layout_matching.proofs.indexed.Indexed.set_for.Goals as goal

pub returns : goal.returns
returns c =
    let l = c.args.self.now.lookup.now in
    c.for_glyph.ensures l.table.now l.place (c.args.self.now.said c.in_ok-self.field-0 c.in_ok-self.was)
