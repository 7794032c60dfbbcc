-- Each of these laws is one of the definitions.
use Rattle.amqp_link.proofs.promises.promises_are_kept.Goals as goal

pub returns : goal.returns
returns c = record {
  encoded = c.items_are_encoded.ensures.items;
  pairs = λ role client_config server_config. record {
    prefix = c.items_acted_on_are_prefix.ensures role client_config server_config;
    lives = c.ends_agree_on_lives.ensures.lives role client_config server_config;
    closed = c.all_items_acted_on_at_close.ensures.channel role client_config server_config;
    ended = c.all_items_acted_on_at_close.ensures.ended role client_config server_config;
    frames = c.octets_in_flight_are_frames.ensures.frames role;
    items = c.octets_in_flight_are_frames.ensures.items role client_config server_config;
    pause = c.ends_agree_on_lives.ensures.pause role client_config server_config;
    waits = c.nothing_waits_for_closed.ensures role client_config server_config;
    openings = c.octets_carry_channels.ensures.opening role;
    before_first = c.no_items_before_first_life.ensures role client_config server_config;
  };
  ends = λ role config. record {
    told = c.items_are_told_and_said.ensures.told role config;
    said = c.items_are_told_and_said.ensures.said role;
    channel_0 = c.items_are_told_and_said.ensures.channel_0 role config;
    put_as = c.closes_are_put_last.ensures.octets role config _;
    reads_back = c.owed_read_back.ensures.all role config;
    not_yet = c.failed_follows.ensures.not_yet role config;
  };
  in_turn = c.replies_answer_requests.ensures;
  one_at_a_time = c.replies_are_in_turn.ensures.one_at_a_time;
}
