-- Sizes and limits of the byte forms: document 01, "Proof form" and "The host", and document 02, Note 7. Each is derived from the ones above it
-- where the documents' own figure follows; the figure stands in the comment. Assumes nothing.
use Rattle.std.specs.Prelude.{ℕ, ◌+◌, ◌*◌}

-- the largest number of 32 bits, and so the clock's last reading
abbrev pub max_word : ℕ
max_word = 4294967295

-- anti-replay nonce (document 01: nonce)
abbrev pub nonce_len : ℕ
nonce_len = 20

-- the words of 32 bits that a nonce is compared by (document 02: Note 3)
abbrev pub nonce_words : ℕ
nonce_words = 5

-- confirmation: counter id, value, clock reading (12)
abbrev pub confirmation_len : ℕ
confirmation_len = 4 + 4 + 4

-- clock certificate: reading, nonce (24)
abbrev pub certificate_len : ℕ
certificate_len = 4 + nonce_len

-- request: nonce, counter id, value before (28)
abbrev pub request_len : ℕ
request_len = nonce_len + 4 + 4

-- an entry's head, which stands before its requests: reading, count, nonce (28)
abbrev pub head_len : ℕ
head_len = 4 + 4 + nonce_len

-- the most requests under one increment
abbrev pub max_requests : ℕ
max_requests = 8

-- the most requests and ticks in a proof, and in an image
abbrev pub max_units : ℕ
max_units = 1024

-- the most bytes for each of them: an entry of one request (56)
abbrev pub unit_len : ℕ
unit_len = head_len + request_len

-- a proof's form
abbrev pub proof_form : ℕ
proof_form = 2

-- a proof's header: form, kind, whole length, three offsets, count (24)
abbrev pub proof_header_len : ℕ
proof_header_len = 2 + 2 + 4 + 4 + 4 + 4 + 4

-- the longest proof, of kind 1 (57,404)
abbrev pub max_proof_len : ℕ
max_proof_len = proof_header_len + confirmation_len + certificate_len + unit_len * max_units

-- an image's form
abbrev pub image_form : ℕ
image_form = 5

-- the most counters in an image (document 01: boxes)
abbrev pub max_counters : ℕ
max_counters = 64

-- a counter's record in an image: its latest confirmation, current value, number of proofs (20)
abbrev pub record_len : ℕ
record_len = confirmation_len + 4 + 4

-- where an image's records begin, behind its header (28)
abbrev pub records_offset : ℕ
records_offset = 2 + 2 + 4 + 4 + 4 + 4 + 4 + 4

-- where an image's entries begin (1,308)
abbrev pub image_log_offset : ℕ
image_log_offset = records_offset + record_len * max_counters

-- an image's log area (57,344)
abbrev pub log_len : ℕ
log_len = unit_len * max_units

-- an image's length (58,652)
abbrev pub image_len : ℕ
image_len = image_log_offset + log_len
