use Rattle.std.proofs.Common.{◌<◌, sym, arith}
use Rattle.search.proofs.Anywhere.{found_anywhere, found_front}
use Rattle.search.proofs.entries.find_entry.Goals as goal

pub returns-in-Some : goal.returns-in-Some
returns-in-Some c =
    let e = c.args.entries.now in
    let within : c.in-Some.i < e.slots = omega (arith, c.in-Some.ensures.0, e.ends.0) in
    (within, sym (found_anywhere e.slots e.words.now c.requires.once c.args.depth c.args.cell _ c.requires.depth c.in_ok-key.ensures c.in-Some.i within c.in-Some.ensures.1))

pub returns : goal.returns
returns c =
    let e = c.args.entries.now in
    found_front e.slots e.words.now c.requires.once c.args.depth c.args.cell _ c.requires.depth c.in_ok-key.ensures e.top c.start_at-start.result c.find_named-2.result e.ends c.start_at-start.ensures
    c.in_default.ensures c.find_named-2.ensures
