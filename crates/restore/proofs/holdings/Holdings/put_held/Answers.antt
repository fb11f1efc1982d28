-- `put_held` meets its contract: the search begins at the first of the domains that the mark tells. Assumes nothing.
use Prim.Native.Nat.{◌≤◌}
use mathlib.Core.Path.{sym, ◌∙◌}
use native.Mathlib.Omega.{arith}
use borrow.Author.Rules.{rules}
use Rattle.search.specs.Search.{HasSource}
use Rattle.restore.proofs.Finding.{put_none, put_source, put_nowhere, put_within, put_found}
use Rattle.restore.proofs.holdings.Holdings.put_held.Goals as goal

pub returns-then-held-eq0 : goal.returns-then-held-eq0
returns-then-held-eq0 g c = let a = c.args in put_none a.self.now a.cell a.held c.requires.2 c.if-held-eq0.true a.memory.now a.budget

pub find_value-requires : goal.find_value-requires
find_value-requires g c =
    let a = c.args in
    let t = a.self.now.table.now.entries in
    let low : 1 ≤ c.first_depth.result = c.first_depth.ensures.low in
    let source : HasSource t.slots t.words.now c.first_depth.result a.cell = put_source a.self.now a.cell a.held c.requires.2 _ c.first_depth.ensures in
    search rules

pub put_value-requires : goal.put_value-requires
put_value-requires g c =
    let a = c.args in (put_within a.self.now a.cell a.held c.requires.2 _ c.first_depth.ensures c.in-Some.found c.in-Some.ensures, omega arith)

pub returns : goal.returns
returns g c =
    let a = c.args in
    put_found a.self.now a.cell a.held c.requires.2 _ c.first_depth.ensures c.in-Some.found c.in-Some.ensures a.memory.now _ a.budget c.put_value.ensures

pub returns-in_default : goal.returns-in_default
returns-in_default g c =
    let a = c.args in
    put_nowhere a.self.now a.cell a.held c.requires.2 _ c.first_depth.ensures (sym c.in_default.is ∙ c.find_value.ensures) a.memory.now a.budget
