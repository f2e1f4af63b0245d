-- `text_stretch` meets its contract: the parts that are lent on are those that it names (proofs/Cutting.antt).
use Rattle.machine.proofs.Cutting.{seen_in, lent-within, text_asked, text-passed}
use Rattle.machine.proofs.text_stretch.Goals as goal

pub slice_bounds-draw_text-end : goal.slice_bounds-draw_text-end
slice_bounds-draw_text-end c = lent-within c.args.bodies.now c.at_most-lent.ensures

pub slice_bounds-draw_text-end-3 : goal.slice_bounds-draw_text-end-3
slice_bounds-draw_text-end-3 c = seen_in c.args.c.writing _ c.seen-onto.ensures

pub draw_text-requires : goal.draw_text-requires
draw_text-requires c = (c.requires.0, text_asked c.args.text.now c.args.rows.now c.args.bodies.now c.args.c c.args.room.now c.at_most-lent.ensures c.seen-onto.ensures c.requires.1)

pub returns : goal.returns
returns c = text-passed c.args.text.now c.args.rows.now c.args.bodies.now c.args.c c.args.room.now c.at_most-lent.ensures c.seen-onto.ensures _ _ _ _ c.draw_text.auto.bodies c.draw_text.auto.room c.draw_text.ensures.text_comes c.draw_text.ensures.text_grows
