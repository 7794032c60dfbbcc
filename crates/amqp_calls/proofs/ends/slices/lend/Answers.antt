use Rattle.std.proofs.Common.{Ok, Err, refl, subst}
use Rattle.amqp_method.specs.HeaderView.{properties_view}
use Rattle.amqp_method.specs.MethodView.{method_view}
use Rattle.amqp_core.specs.Asks.Outcomes.{content_asked}
use Rattle.amqp_core.specs.Stream.LentAsks.{Lend, LendsContent}
use Rattle.amqp_calls.proofs.ends.slices.lend.Goals as goal

pub returns-in-Ok : goal.returns-in-Ok
returns-in-Ok g c =
    let ask = content_asked c.args.channel (method_view c.args.method.now) (properties_view c.args.properties.now) c.args.body.now in
    record {
      answer = Ok c.in-Ok.frames;
      lends = subst (λ end. LendsContent end ask Lend (Ok c.in-Ok.frames) c.lend_content.new.self) c.deref_mut.ensures.value (c.in-Ok.ensures.lends c.requires);
      told = c.place.ensures;
      gathering = refl;
    }

pub returns-in-Err : goal.returns-in-Err
returns-in-Err g c =
    let ask = content_asked c.args.channel (method_view c.args.method.now) (properties_view c.args.properties.now) c.args.body.now in
    record {
      answer = Err c.in-Err.fault;
      lends = subst (λ end. LendsContent end ask Lend (Err c.in-Err.fault) c.lend_content.new.self) c.deref_mut.ensures.value (c.in-Err.ensures.lends c.requires);
      told = (c.lend_fault.ensures, refl);
      gathering = refl;
    }
