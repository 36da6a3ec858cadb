-- When a nonce is new: document 01, "a nonce is new when no event so far has it, alone or in a request". A read has its nonce, an increment given the
-- digest of no list has that, and one given the digest of a list has the nonces of its requests: the digest is nobody's. Assumes nothing.
use Rattle.std.specs.Prelude.{ℕ, ◌≡◌, ◌⊎◌, List, [], ◌∷◌}
use Rattle.forms.specs.declared.request.Request.{Request}
use Rattle.history.specs.History.{HistoryEvent, increment, read, list, bare}

-- one of some requests has the nonce
unfoldable pub InRequest : List ℕ → List Request → Type 0
InRequest nonce [] = ⊥
InRequest nonce (q ∷ qs) = (q.nonce ≡ nonce) ⊎ InRequest nonce qs

-- an event has the nonce
abbrev pub Has : List ℕ → HistoryEvent → Type 0
Has nonce (increment (list qs fit)) = InRequest nonce qs
Has nonce (increment (bare own none)) = own ≡ nonce
Has nonce (read own) = own ≡ nonce

-- no event of the list has it
unfoldable pub New : List ℕ → List HistoryEvent → Type 0
New nonce [] = Unit {0}
New nonce (e ∷ es) = (Has nonce e → ⊥) × New nonce es
