-- `look_place` meets its contract: what it finds, or is refused with, is look's place, and so meets the other clauses. Assumes nothing.
use Rattle.store.specs.Outcome.{buffers}
use Rattle.look.proofs.Placing.{look_refused_lem, look_found, look_room, placed_means, placed_within}
use Rattle.look.proofs.look_place.Goals as goal

pub returns-in_err-sound-clause-found : goal.returns-in_err-sound-clause-found
returns-in_err-sound-clause-found c =
    look_refused_lem _ _ (buffers c.args.memory.now c.args.bodies.now c.args.table.now) _ _ c.from_residual.ensures.1 c.in_err-sound.ensures.no

pub returns-in_err-sound-clause-means : goal.returns-in_err-sound-clause-means
returns-in_err-sound-clause-means c =
    let b = buffers c.args.memory.now c.args.bodies.now c.args.table.now in
    placed_means _ _ b _ (look_refused_lem _ _ b _ _ c.from_residual.ensures.1 c.in_err-sound.ensures.no)

pub find_place-requires-clause-depth : goal.find_place-requires-clause-depth
find_place-requires-clause-depth c =
    let f = c.in_ok-sound.ensures in
    (look_room _ _ (buffers c.args.memory.now c.args.bodies.now c.args.table.now) _ _ _ f.no f.passed.0 f.passed.1).0

pub find_place-requires-clause-source : goal.find_place-requires-clause-source
find_place-requires-clause-source c =
    let f = c.in_ok-sound.ensures in
    (look_room _ _ (buffers c.args.memory.now c.args.bodies.now c.args.table.now) _ _ _ f.no f.passed.0 f.passed.1).1

pub returns-clause-found : goal.returns-clause-found
returns-clause-found c =
    let f = c.in_ok-sound.ensures in
    look_found _ _ (buffers c.args.memory.now c.args.bodies.now c.args.table.now) _ _ _ _ f.no f.passed.0 f.passed.1 c.find_place.ensures

pub returns-clause-means : goal.returns-clause-means
returns-clause-means c =
    let b = buffers c.args.memory.now c.args.bodies.now c.args.table.now in
    let f = c.in_ok-sound.ensures in
    placed_means _ _ b _ (look_found _ _ b _ _ _ _ f.no f.passed.0 f.passed.1 c.find_place.ensures)

pub returns-clause-within : goal.returns-clause-within
returns-clause-within c =
    let b = buffers c.args.memory.now c.args.bodies.now c.args.table.now in
    let f = c.in_ok-sound.ensures in
    placed_within _ _ b _ (look_found _ _ b _ _ _ _ f.no f.passed.0 f.passed.1 c.find_place.ensures)
