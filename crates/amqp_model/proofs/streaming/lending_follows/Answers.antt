-- What is fed to an end that gathers follows its history, and alike endpoints do alike.
use Rattle.amqp_model.proofs.AlikeEndpoints.{stream-feed-follows}
use Rattle.amqp_model.proofs.streaming.lending_follows.Goals as goal

pub returns : goal.returns
returns c = stream-feed-follows c.octets_follow.ensures.feed
