-- What is still to be lent of a content.
use Rattle.std.specs.Prelude.{ℕ, List, ◌++◌}
use Rattle.amqp_model.specs.Wire.Contents.{pieces}
use Rattle.amqp_outbox.specs.LentContent.{braided}
use Rattle.amqp_outbox.specs.declared.lent.ContentFrames.{ContentFrames}

abbrev pub content_left : ContentFrames → List ℕ
content_left x = x.begun.now ++ (x.part.now ++ braided x.before x.between.now (pieces x.room x.body.now))
