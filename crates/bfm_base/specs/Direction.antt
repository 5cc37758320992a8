-- The six directions of a local move.
use Rattle.std.specs.Prelude.{List, [], ◌∷◌, pos, negsuc}
use Rattle.bfm_base.specs.declared.place.P3.{P3}
use Rattle.bfm_base.specs.declared.place.Dir.{Dir}
use Rattle.bfm_base.specs.declared.place.Dir.TheVariants.{XUp, XDown, YUp, YDown, ZUp, ZDown}

-- in the order of their numbers, which begin at 0
abbrev pub directions : List Dir
directions = XUp ∷ XDown ∷ YUp ∷ YDown ∷ ZUp ∷ ZDown ∷ []

-- the unit vector along a direction
abbrev pub step_of : Dir → P3
step_of XUp = record { x = pos 1; y = pos 0; z = pos 0 }
step_of XDown = record { x = negsuc 0; y = pos 0; z = pos 0 }
step_of YUp = record { x = pos 0; y = pos 1; z = pos 0 }
step_of YDown = record { x = pos 0; y = negsuc 0; z = pos 0 }
step_of ZUp = record { x = pos 0; y = pos 0; z = pos 1 }
step_of ZDown = record { x = pos 0; y = pos 0; z = negsuc 0 }
