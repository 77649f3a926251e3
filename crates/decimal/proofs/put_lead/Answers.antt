-- One digit, two, three or four: they are all that the number has.
use Rattle.std.proofs.Common.{ℕ, ◌+◌, ◌*◌, ◌≤◌, ◌<◌, arith}
use Rattle.decimal.specs.Digits.{digits-full}
use Rattle.decimal.proofs.Parts.{digits-last-one, lead-room, lead-written}
use Rattle.decimal.proofs.put_lead.Goals as goal

-- the bytes behind the digits are fewer than the buffer's
rest-fits : (k n : ℕ) {l : ℕ} → n + k ≤ l → l * 1 < 9223372036854775808 → k * 1 < 9223372036854775808
rest-fits k n room h = omega arith

pub put_both-requires : goal.put_both-requires
put_both-requires g c = let n = c.args.n in (omega arith, (rest-fits g.row.REST _ c.requires.room c.well_formed.0.1, lead-room 1 n c.args.rest (digits-last-one n (omega arith)) g.row.REST c.requires.room))

pub returns-then-n-lt10 : goal.returns-then-n-lt10
returns-then-n-lt10 g c = let n = c.args.n in lead-written 1 n c.args.rest (digits-last-one n (omega arith)) c.one.ensures c.put_both.ensures

pub put_both-requires-then-n-lt100 : goal.put_both-requires-then-n-lt100
put_both-requires-then-n-lt100 g c = let n = c.args.n in (omega arith, (rest-fits g.row.REST _ c.requires.room c.well_formed.0.1, lead-room 2 n c.args.rest (digits-full 1 n (omega arith) (omega arith)) g.row.REST c.requires.room))

pub returns-then-n-lt100 : goal.returns-then-n-lt100
returns-then-n-lt100 g c = let n = c.args.n in lead-written 2 n c.args.rest (digits-full 1 n (omega arith) (omega arith)) c.pair.ensures c.put_both-then-n-lt100.ensures

pub put_both-requires-then-n-lt1000 : goal.put_both-requires-then-n-lt1000
put_both-requires-then-n-lt1000 g c = let n = c.args.n in (omega arith, (rest-fits g.row.REST _ c.requires.room c.well_formed.0.1, lead-room 3 n c.args.rest (digits-full 2 n (omega arith) (omega arith)) g.row.REST c.requires.room))

pub returns-then-n-lt1000 : goal.returns-then-n-lt1000
returns-then-n-lt1000 g c = let n = c.args.n in lead-written 3 n c.args.rest (digits-full 2 n (omega arith) (omega arith)) c.three.ensures c.put_both-then-n-lt1000.ensures

pub put_both-requires-2 : goal.put_both-requires-2
put_both-requires-2 g c = let n = c.args.n in (omega arith, (rest-fits g.row.REST _ c.requires.room c.well_formed.0.1, lead-room 4 n c.args.rest (digits-full 3 n (omega arith) (omega arith)) g.row.REST c.requires.room))

pub returns : goal.returns
returns g c = let n = c.args.n in lead-written 4 n c.args.rest (digits-full 3 n (omega arith) (omega arith)) c.four.ensures c.put_both-2.ensures
