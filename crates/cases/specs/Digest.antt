-- FNV-1a, 64 bits: a digest of bytes, so that the table can state a whole bank in one number. The second engine prints the same. Assumes nothing.
use Rattle.std.specs.Prelude.{ℕ, ◌+◌, ◌*◌, ◌/◌, ◌%◌, ◌^◌, List, [], ◌∷◌}
use Rattle.std.specs.Int.Bits.{bit_xor}

-- the state h with byte b taken in; only the lowest byte of h meets b
unfoldable pub taken : ℕ → ℕ → ℕ
taken h b = (h / 256 * 256 + bit_xor (h % 256) b) * 0x100000001b3 % 2 ^ 64

unfoldable pub digest_from : ℕ → List ℕ → ℕ
digest_from h [] = h
digest_from h (b ∷ bs) = digest_from (taken h b) bs

unfoldable pub digest : List ℕ → ℕ
digest l = digest_from 0xcbf29ce484222325 l
