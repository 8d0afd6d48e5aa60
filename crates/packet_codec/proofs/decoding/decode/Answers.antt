use Rattle.std.proofs.Common.{◌-◌, ◌<◌, length, arith}
use Rattle.std.proofs.lemmas.Grind.{common_steps}
use Rattle.packet_codec.proofs.BadPackets.{bad_one, bad_whole, bad_behind, whole_one}
use Rattle.packet_codec.proofs.decoding.decode.Goals as goal

pub returns-then-is_empty-clause-only : goal.returns-then-is_empty-clause-only
returns-then-is_empty-clause-only c = λ p is e. whole_one c.args.bytes.now c.in-Ok.rest.now c.in-Ok.packet p c.in-Ok.ensures.is c.in-Ok.ensures.found is e

pub returns-else-is_empty-clause-only : goal.returns-else-is_empty-clause-only
returns-else-is_empty-clause-only c = λ p is e.
    let more : 0 < length c.in-Ok.rest.now = grind (arith, common_steps) in
    let bad = bad_behind c.args.bytes.now c.in-Ok.rest.now c.in-Ok.packet c.in-Ok.ensures.is c.in-Ok.ensures.found more in
    bad.none (p, is, e)

pub returns-else-is_empty-clause-bad : goal.returns-else-is_empty-clause-bad
returns-else-is_empty-clause-bad c =
    let more : 0 < length c.in-Ok.rest.now = grind (arith, common_steps) in
    bad_behind c.args.bytes.now c.in-Ok.rest.now c.in-Ok.packet c.in-Ok.ensures.is c.in-Ok.ensures.found more

pub returns-else-is_empty-clause-refused : goal.returns-else-is_empty-clause-refused
returns-else-is_empty-clause-refused c = λ at bad.
    let more : 0 < length c.in-Ok.rest.now = grind (arith, common_steps) in
    let told = bad_behind c.args.bytes.now c.in-Ok.rest.now c.in-Ok.packet c.in-Ok.ensures.is c.in-Ok.ensures.found more in
    bad_one c.args.bytes.now (length c.args.bytes.now - length c.in-Ok.rest.now) at told bad

pub returns-in-Err-Bad-clause-only : goal.returns-in-Err-Bad-clause-only
returns-in-Err-Bad-clause-only c = λ p is e. (bad_whole c.args.bytes.now c.in-Err-Bad.left (rw c.in-Err-Bad.field-0-is at c.in-Err-Bad.ensures.bad)).none (p, is, e)

pub returns-in-Err-Bad-clause-refused : goal.returns-in-Err-Bad-clause-refused
returns-in-Err-Bad-clause-refused c = λ at bad.
    let told = bad_whole c.args.bytes.now c.in-Err-Bad.left (rw c.in-Err-Bad.field-0-is at c.in-Err-Bad.ensures.bad) in
    bad_one c.args.bytes.now (length c.args.bytes.now - c.in-Err-Bad.left) at told bad
