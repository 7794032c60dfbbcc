-- The methods before the place are of other kinds.
use Rattle.std.proofs.Common.{rules, ◌≡◌, ◌<◌, true, false, length, sym, ◌∙◌}
use Rattle.amqp_method.specs.Kinds.{same_kind}
use Rattle.amqp_method.specs.MethodView.{method_view}
use Rattle.amqp_core.proofs.HeardLemmas.{newest_here, newest_later}
use Rattle.amqp_core.proofs.heard.newest_of.Goals as goal

pub returns-then-same : goal.returns-then-same
returns-then-same c =
    let methods = c.args.methods.now in
    let i = c.loop-method.method-index in
    let method = c.method-item.result in
    let within : i < length methods = search rules in
    let same : same_kind (method_view method).kind c.args.kind ≡ true = search rules in
    sym (newest_here c.args.kind methods i method _ within c.method-item.is same) ∙ c.loop-method.invariant

pub loop-method-preserved : goal.loop-method-preserved
loop-method-preserved c =
    let methods = c.args.methods.now in
    let i = c.loop-method.method-index in
    let method = c.method-item.result in
    let within : i < length methods = search rules in
    let other : same_kind (method_view method).kind c.args.kind ≡ false = search rules in
    sym (newest_later c.args.kind methods i method _ within c.method-item.is other) ∙ c.loop-method.invariant
