-- Document 01, "Job file": its bytes, and what stands where in a file.
use Rattle.std.specs.Prelude.{List, [], ◌∷◌, ◌++◌, ℕ, ◌+◌, ◌*◌, ◌/◌, ◌%◌, length, get_or, drop}
use Rattle.spec.specs.Words.{part}
use Rattle.spec.specs.Recipe.{Recipe}
use Rattle.spec.specs.Picture.{Picture}

-- a 16-bit number, low byte first, written and read
unfoldable pub low16 : ℕ → List ℕ
low16 n = n % 256 ∷ n / 256 % 256 ∷ []

unfoldable pub read16 : List ℕ → ℕ → ℕ
read16 bytes k = get_or bytes k 0 + 256 * get_or bytes (k + 1) 0

-- The mark BOR and the 16-bit version 1.
unfoldable pub mark : List ℕ
mark = 0x42 ∷ 0x4F ∷ 0x52 ∷ []

unfoldable pub version : ℕ
version = 1

-- The bytes of a job: mark, version, the two counts, row widths, column widths, w, h, pixels; nothing after.
unfoldable pub job_bytes : Recipe → Picture → List ℕ
job_bytes r p =
    mark ++ (low16 version ++ (length r.rows ∷ length r.columns
    ∷ (r.rows ++ (r.columns ++ (low16 p.width ++ (low16 p.height ++ p.pixels))))))

-- the length of a job with these lists and sides
unfoldable pub job_length : Recipe → ℕ → ℕ → ℕ
job_length r w h = 11 + length r.rows + length r.columns + w * h

-- what a file says: the recipe, w and h, the offset at which the pixels begin, and the picture
unfoldable pub job_recipe : List ℕ → Recipe
job_recipe bytes =
    record {
      rows = part 7 (get_or bytes 5 0) bytes;
      columns = part (7 + get_or bytes 5 0) (get_or bytes 6 0) bytes;
    }

unfoldable pub job_width : List ℕ → ℕ
job_width bytes = read16 bytes (7 + get_or bytes 5 0 + get_or bytes 6 0)

unfoldable pub job_height : List ℕ → ℕ
job_height bytes = read16 bytes (9 + get_or bytes 5 0 + get_or bytes 6 0)

unfoldable pub job_offset : List ℕ → ℕ
job_offset bytes = 11 + get_or bytes 5 0 + get_or bytes 6 0

unfoldable pub job_picture : List ℕ → Picture
job_picture bytes = record { width = job_width bytes; height = job_height bytes; pixels = drop (job_offset bytes) bytes }
