-- Document 01, "Recipe and exact sum", its second part: pictures, the grown size and the exact sum.
use Rattle.std.specs.Prelude.{◌&&◌, cond, ℕ, suc, ◌+◌, ◌-◌, ◌*◌, ◌≤◌, leb, ltb, get_or}
use mathlib.Core.List.{List, flatten}
use Rattle.spec.specs.declared.Image.{Image}
use Rattle.spec.specs.Words.{sum, tab}
use Rattle.spec.specs.Recipe.{Recipe, kernel, order}

-- Picture: width w, height h, and the pixels stored row by row.
pub record Picture : Type 0 where
  pub width : ℕ
  pub height : ℕ
  pub pixels : List ℕ

abbrev pub picture : ℕ → ℕ → List ℕ → Picture
picture w h xs = record { width = w; height = h; pixels = xs }

-- the picture that an image holds
abbrev pub pictured : Image → Picture
pictured i = picture i.width i.height i.pixels.now

-- Pixels are bytes, and so are greys: this is the largest.
abbrev pub largest_gray : ℕ
largest_gray = 255

-- no pixel of a picture is above a largest grey
abbrev pub Within : ℕ → Picture → Type 0
Within most p = (k : ℕ) → get_or p.pixels k 0 ≤ most

-- the pixel at column i, row j; a pixel outside the picture is 0
unfoldable pub pixel : Picture → ℕ → ℕ → ℕ
pixel p i j = cond (ltb i p.width && ltb j p.height) (get_or p.pixels (j * p.width + i) 0) 0

-- pixel (i - a, j - b), which is outside where a is above i or b above j
unfoldable pub pixel_back : Picture → ℕ → ℕ → ℕ → ℕ → ℕ
pixel_back p i a j b = cond (leb a i && leb b j) (pixel p (i - a) (j - b)) 0

-- Grown picture: w + rx wide and h + ry high (the full convolution).
unfoldable pub full_width_of : Recipe → ℕ → ℕ
full_width_of r w = w + order r.rows

unfoldable pub full_height_of : Recipe → ℕ → ℕ
full_height_of r h = h + order r.columns

-- the two sides of a picture
pub record Sides : Type 0 where
  pub width : ℕ
  pub height : ℕ

unfoldable pub full_sides : Recipe → ℕ → ℕ → Sides
full_sides r w h = record { width = full_width_of r w; height = full_height_of r h }

-- Exact sum at grown column i, row j: the sum over a of 0 to rx and b of 0 to ry of R[a] times C[b] times pixel (i - a, j - b).
unfoldable pub exact : Recipe → Picture → ℕ → ℕ → ℕ
exact r p i j =
    sum (suc (order r.rows))
    (λ a. sum (suc (order r.columns))
    (λ b. get_or (kernel r.rows) a 0 * get_or (kernel r.columns) b 0 * pixel_back p i a j b))

-- grown row j of the exact sums, and all grown rows one after the other
unfoldable pub full_row : Recipe → Picture → ℕ → List ℕ
full_row r p j = tab (full_width_of r p.width) (λ i. exact r p i j)

unfoldable pub full : Recipe → Picture → List ℕ
full r p = flatten (tab (full_height_of r p.height) (λ j. full_row r p j))

-- Document 02: the exact sums of a recipe over a picture w wide and h high, as a picture of that grown size.
unfoldable pub grown : Recipe → ℕ → ℕ → List ℕ → Picture
grown r w h sums = picture (full_width_of r w) (full_height_of r h) sums
