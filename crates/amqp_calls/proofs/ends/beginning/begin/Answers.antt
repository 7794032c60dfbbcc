use Rattle.std.proofs.Common.{[], Ok, Err, refl, subst, ◌∙◌}
use Rattle.amqp_method.specs.HeaderView.{properties_view}
use Rattle.amqp_method.specs.MethodView.{method_view}
use Rattle.amqp_core.specs.Asks.Outcomes.{content_asked}
use Rattle.amqp_core.specs.Stream.LentAsks.{Begins, LendsContent}
use Rattle.amqp_calls.proofs.ends.beginning.begin.Goals as goal

pub returns-in-Ok : goal.returns-in-Ok
returns-in-Ok g c =
    let ask = content_asked c.args.channel (method_view c.args.method.now) (properties_view c.args.header.now.properties) in
    let n = c.begin_content.new in
    record {
      answer = Ok c.in-Ok.writer;
      begins = λ body long.
          subst (λ end. LendsContent end (ask body) (Begins [] n.octets.items body) (Ok c.in-Ok.writer) n.self) c.deref_mut.ensures.value
          (subst (λ before. LendsContent c.deref_mut.result.now (ask body) (Begins before n.octets.items body) (Ok c.in-Ok.writer) n.self) c.clear.ensures.items
          (c.in-Ok.ensures.begins c.requires body long));
      left = c.in-Ok.ensures.size;
      told = (refl, refl);
      gathering = refl;
    }

pub returns-in-Err : goal.returns-in-Err
returns-in-Err g c =
    let ask = content_asked c.args.channel (method_view c.args.method.now) (properties_view c.args.header.now.properties) in
    let n = c.begin_content.new in
    record {
      answer = Err c.in-Err.fault;
      begins = λ body long.
          subst (λ end. LendsContent end (ask body) (Begins [] n.octets.items body) (Err c.in-Err.fault) n.self) c.deref_mut.ensures.value
          (subst (λ before. LendsContent c.deref_mut.result.now (ask body) (Begins before n.octets.items body) (Err c.in-Err.fault) n.self) c.clear.ensures.items
          (c.in-Err.ensures.begins c.requires body long));
      left = tt;
      told = (c.lend_fault.ensures, refl, c.in-Err.ensures.kept ∙ c.clear.ensures.items);
      gathering = refl;
    }
