-- The random bytes of an application: words of ChaCha20 (RFC 8439, with a counter and a nonce of 64 bits each).
use Rattle.std.specs.Prelude.{ℕ, zero, suc, ◌+◌, ◌*◌, ◌/◌, ◌%◌, ◌^◌, List, [], ◌++◌, take}
use Rattle.std.specs.Int.{w32, to_le_bytes}
use Rattle.rand_chacha.specs.ChaCha.{ChaCha, word_at, key_of}
use Rattle.tee_base.specs.Words.{Key}

-- the bytes of so many words of a stream from a place on, low byte first; places go on from 2^68 - 1 to 0
unfoldable pub words_from : Key → ℕ → ℕ → ℕ → List ℕ
words_from key stream place zero = []
words_from key stream place (suc count) =
    words_from key stream place count ++ to_le_bytes w32 (word_at 10 key stream ((place + count) % 2 ^ 68))

-- how many words so many bytes take
abbrev pub words_for : ℕ → ℕ
words_for count = (count + 3) / 4

-- the stream of an application in one boot, at a place
abbrev pub stream_at : List ℕ → ℕ → ℕ → ℕ → ChaCha
stream_at seed application boot place = record {
  key = key_of seed;
  stream = application * 2 ^ 32 + boot;
  word_pos = place;
}

-- the next bytes of a stream
abbrev pub random_from : ChaCha → ℕ → List ℕ
random_from s count = take count (words_from s.key s.stream s.word_pos (words_for count))

-- the stream behind these bytes: what a last word has over is dropped
abbrev pub stream_after : ChaCha → ℕ → ChaCha
stream_after s count = record s { word_pos = (s.word_pos + words_for count) % 2 ^ 68 }

-- the random bytes of an application in one boot, from a place on
abbrev pub random : List ℕ → ℕ → ℕ → ℕ → ℕ → List ℕ
random seed application boot place count = random_from (stream_at seed application boot place) count
