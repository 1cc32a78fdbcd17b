use Rattle.std.proofs.Common.{◌≡◌}
use Rattle.node_seats.specs.Seats.{Sitting}
use Rattle.node_seats.specs.declared.Transcript.{Transcript}
use Rattle.console.specs.Seats.{IsTranscript}
use Rattle.console.proofs.serving.serve.Goals as goal

-- the transcript that a seat leaves is its own
left_by : (s : Sitting) (transcript : Transcript) → transcript.seat ≡ s.seat → transcript.node ≡ s.node
    → transcript.entries.items ≡ s.entries → IsTranscript s transcript
left_by s transcript seat node entries = record { seat = seat; node = node; entries = entries }

pub returns-in-Ok : goal.returns-in-Ok
returns-in-Ok g c =
    let transcript = c.into_transcript-transcript in
    let seat = c.serve_from-ended.new.seat in (
      seat,
      left_by seat transcript.result transcript.ensures.seat transcript.ensures.node transcript.ensures.entries,
      c.in-Ok.ensures.served,
    )

pub returns-in-Err : goal.returns-in-Err
returns-in-Err g c =
    let transcript = c.into_transcript-transcript in
    let seat = c.serve_from-ended.new.seat in (
      seat,
      left_by seat transcript.result transcript.ensures.seat transcript.ensures.node transcript.ensures.entries,
      c.in-Err.ensures.served,
    )
