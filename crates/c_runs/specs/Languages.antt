-- The name of a language where 64 bytes have room for it.
use Rattle.std.specs.Prelude.{ℕ, suc, zero, ◌-◌, ◌==◌, ◌&&◌, ◌||◌, Bool, List, length, take, get_or, nat_lt, if◌then◌else◌}

-- `-` (45), and `_` (95), which stands for it
abbrev pub is_hyphen : ℕ → Bool
is_hyphen b = (b == 45) || (b == 95)

-- the last place up to this one where a hyphen stands behind a subtag; 0 if there is none
abbrev pub last_hyphen : ℕ → List ℕ → ℕ
last_hyphen zero name = 0
last_hyphen (suc n) name = if is_hyphen (get_or name (suc n) 0) then suc n else last_hyphen n name

-- without a subtag of one letter or digit that ends there
abbrev pub without_single : ℕ → List ℕ → ℕ
without_single end name = if nat_lt 1 end && is_hyphen (get_or name (end - 2) 0) then end - 2 else end

-- subtags are removed from the right until the name fits, and then one of a single letter or digit that ends it (RFC 5646,
-- 4.4.2 "Truncation of Language Tags")
abbrev pub fitting : ℕ → List ℕ → List ℕ
fitting room name = if nat_lt room (length name) then take (without_single (last_hyphen room name) name) name else name
