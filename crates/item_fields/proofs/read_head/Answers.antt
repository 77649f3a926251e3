use Rattle.std.specs.Prelude.{Ok}
use Rattle.std.proofs.Common.{rules, arith}
use Rattle.reader.specs.Standing.{standing}
use Rattle.road.specs.File.{choice, head_fields, class_of, terrain_of}
use Rattle.fields.specs.Reads.{Reads}
use Rattle.fields.specs.Fits.{chosen}
use Rattle.fields.specs.Onward.{chained, stopped, gives}
use Rattle.item_fields.proofs.read_head.Goals as goal
use Rattle.item_fields.proofs.read_head.Goals.{In_ok-class, In_ok-terrain}

read_class : (c : In_ok-class) → Reads (choice 1 4 class_of) (standing c.read_contract.new.r) (standing c.read_as.new.r) (Ok c.in_ok-class.class)
read_class c = chosen 1 4 class_of (c.in_ok-class.ensures _ (λ n o e. search rules))

read_terrain : (c : In_ok-terrain) → Reads (choice 1 3 terrain_of) (standing c.read_as.new.r) (standing c.read_as-2.new.r) (Ok c.in_ok-terrain.terrain)
read_terrain c = chosen 1 3 terrain_of (c.in_ok-terrain.ensures _ (λ n o e. search rules))

pub returns-in_err-class : goal.returns-in_err-class
unfolding head_fields
returns-in_err-class c = let class = chosen 1 4 class_of (c.in_err-class.ensures _ (λ n o e. search rules)) in grind (arith, chained, stopped, class)

pub returns-in_err-terrain : goal.returns-in_err-terrain
unfolding head_fields
returns-in_err-terrain c =
    let terrain = chosen 1 3 terrain_of (c.in_err-terrain.ensures _ (λ n o e. search rules)) in
    grind (arith, chained, stopped, read_class (goal.at.returns-in_err-terrain c).In_ok-class, terrain)

pub returns-in_err-step : goal.returns-in_err-step
unfolding head_fields
returns-in_err-step c = let p = goal.at.returns-in_err-step c in grind (arith, chained, stopped, read_class p.In_ok-class, read_terrain p.In_ok-terrain)

pub returns-in_err-ramp : goal.returns-in_err-ramp
unfolding head_fields
returns-in_err-ramp c = let p = goal.at.returns-in_err-ramp c in grind (arith, chained, stopped, read_class p.In_ok-class, read_terrain p.In_ok-terrain)

pub returns : goal.returns
unfolding head_fields
returns c = let p = goal.at.returns c in grind (arith, chained, gives, read_class p.In_ok-class, read_terrain p.In_ok-terrain)
