-- The method that begins a content changes no more than the requests.
use Rattle.amqp_channel.proofs.standing.Standing.take.Goals as goal

pub returns-in_ok-take_request-in-Begun-clause-ok : goal.returns-in_ok-take_request-in-Begun-clause-ok
returns-in_ok-take_request-in-Begun-clause-ok c =
    λ content replies.
    let stands = c.in_ok-take_request-in-Begun.ensures.ok content in
    rw (c.in-Begun.is, c.in-Server-Method.is-0, c.in-Server-Method.is-1)
    (record { paused = stands.paused; awaits = stands.awaits; requests = stands.requests })
