-- The calls of a list as they are defined.
use Rattle.std.specs.Prelude.{ℕ}
use Rattle.theory.specs.Runs.{Command, lay_out, cut, show_safe, show_unsafe, count_boxes, find_box, measure}
use Rattle.rate_map.specs.declared.call.Call.{Call}
use Rattle.rate_map.specs.declared.call.Call.TheVariants.{LayOut, Split, Safe, Unsafe, Count, Find, Measure}

abbrev pub command : Call → Command
command (LayOut grid limit sides) = lay_out grid limit sides.now
command (Split number rate place) = cut number rate place
command (Safe number v) = show_safe number v.now
command (Unsafe number v w) = show_unsafe number v.now w.now
command Count = count_boxes
command (Find number) = find_box number
command Measure = measure

-- the box that a call asks for
abbrev pub box_asked : Command → ℕ
box_asked (lay_out G L sides) = 0
box_asked (cut b r x) = 0
box_asked (show_safe b v) = 0
box_asked (show_unsafe b v w) = 0
box_asked count_boxes = 0
box_asked (find_box b) = b
box_asked measure = 0
