use Rattle.std.proofs.Common.{◌≡◌, Ok, length, rules}
use Rattle.usb_scene.specs.Read.{scene_of}
use Rattle.usb_scene.proofs.Reading.{read_end}
use Rattle.usb_scene.proofs.WellRead.{scene_of-IsWellFormed}
use Rattle.usb_scene.proofs.read.read_scene.Goals as goal

pub returns-in-Some-clause-well_formed : goal.returns-in-Some-clause-well_formed
returns-in-Some-clause-well_formed c =
    let none : length c.loop-rest.rest.now ≡ 0 = search rules in
    let end = read_end c.loop-rest.reading c.loop-rest.line c.loop-rest.rest.now c.args.bytes.now c.loop-rest.invariant.so_far none in
    let whole : scene_of c.args.bytes.now ≡ Ok c.into_scene.result = search (rules, end) in
    scene_of-IsWellFormed c.args.bytes.now c.into_scene.result c.requires whole
