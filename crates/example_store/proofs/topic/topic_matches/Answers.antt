use Rattle.std.proofs.Common.{ap, ◌∙◌}
use Rattle.example_store.specs.Topic.{lent, words}
use Rattle.example_store.proofs.TopicLemmas.{exactly}
use Rattle.example_store.proofs.topic.topic_matches.Goals as goal

pub returns : goal.returns
returns c =
    exactly c.args.pattern.now c.args.key.now _ _ c.words_match.result (ap lent c.deref.ensures.value ∙ c.in_ok-pattern.ensures ∙ ap words c.as_bytes.ensures.octets)
    (ap lent c.deref-2.ensures.value ∙ c.in_ok-key.ensures ∙ ap words c.as_bytes-2.ensures.octets) c.words_match.ensures
