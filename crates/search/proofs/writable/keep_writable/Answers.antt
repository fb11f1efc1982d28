use Rattle.std.proofs.Common.{◌≡◌, ℕ, ◌<◌, subst, arith}
use Rattle.search.proofs.TakenOut.{TakenOut, take_fits, marked_there, kept_more, kept_free, kept_end}
use Rattle.search.proofs.writable.keep_writable.Goals as goal

pub keep_entry-requires : goal.keep_entry-requires
keep_entry-requires c =
    let e = c.args.entries.now in
    let turn = c.loop-i in
    let more : turn.i < e.slots = omega (arith, e.ends.0) in
    rw c.first_word.ensures (
      c.requires.depth.1,
      turn.invariant.1,
      take_fits e.slots e.words.now c.args.depth c.args.seen.now c.requires.depth.0 c.requires.marked.1 c.requires.once turn.i turn.seen more turn.invariant.0,
      marked_there e.slots e.words.now c.args.depth c.args.seen.now c.requires.depth.0 c.requires.marked.1 c.requires.once turn.i turn.seen more turn.invariant.0,
    )

pub loop-i-preserved : goal.loop-i-preserved
loop-i-preserved c =
    let e = c.args.entries.now in
    let turn = c.loop-i in
    let more : turn.i < e.slots = omega (arith, e.ends.0) in
    (kept_more e.slots e.words.now c.args.depth c.args.seen.now c.requires.depth.0 c.requires.marked.1 c.requires.once turn.i turn.seen more turn.invariant.0 _ (rw c.first_word.ensures at c.keep_entry.ensures.0), c.keep_entry.ensures.1)

pub returns : goal.returns
returns c =
    let e = c.args.entries.now in
    let turn = c.loop-i in
    let last : turn.i ≡ e.top = omega arith in
    kept_end e.slots e.words.now c.args.depth c.args.seen.now c.requires.depth.0 c.requires.marked.1 c.requires.once turn.seen
    (kept_free e.slots e.words.now c.args.depth c.args.seen.now c.requires.depth.0 c.requires.marked.1 c.requires.once e.top e.slots turn.seen e.ends.0 e.ends.1
    (subst (λ (n : ℕ). TakenOut e.slots e.words.now c.args.depth c.args.seen.now n turn.seen) last turn.invariant.0))
